use Prim.Native.Nat.{◌≤◌, ◌-◌}
use Rattle.sheet.proofs.Beginnings.{Goes}
use Rattle.sheet.proofs.kinds.index.Given as goal

abbrev pub invariant-loop-k : goal.invariant-loop-k
invariant-loop-k l = (l.i ≤ l.n) × Goes l.initial.t l.n l.t l.i l.k

abbrev pub invariant-loop-i : goal.invariant-loop-i
invariant-loop-i l = (l.i ≤ l.n) × Goes l.fn.t l.n l.t l.i l.k

abbrev pub decreases-loop-i : goal.decreases-loop-i
decreases-loop-i l = l.n - l.i
