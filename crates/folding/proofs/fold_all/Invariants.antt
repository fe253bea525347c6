use Prim.Native.Nat.{◌-◌, ◌≤◌}
use Rattle.folding.proofs.Instructions.{Passed}
use Rattle.folding.proofs.fold_all.Given as goal

abbrev pub invariant-loop-n : goal.invariant-loop-n
invariant-loop-n l = (l.n - l.initial.n ≤ l.n-end - l.initial.n) × Passed l.t l.rec l.classes l.initial.places l.initial.counts l.places l.counts l.reused l.rows l.n
