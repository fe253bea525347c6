use mathlib.Core.Path.{◌≡◌}
use Prim.Native.Nat.{◌+◌, ◌≤◌}
use lib.ListN.{length}
use Rattle.table.proofs.Filling.{Going}
use Rattle.table.proofs.index.fill.Given as goal

abbrev pub invariant-loop-n : goal.invariant-loop-n
invariant-loop-n l = (length l.t ≡ length l.initial.t) × (l.x ≤ l.most + 1) × Going l.k.0 l.at l.most l.x l.n l.initial.t l.t
