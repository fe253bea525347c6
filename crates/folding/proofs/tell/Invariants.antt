use mathlib.Core.Path.{◌≡◌}
use mathlib.Core.List.{map}
use Prim.Native.Nat.{◌-◌, ◌≤◌}
use Rattle.laws.specs.Lists.{from}
use Rattle.table.specs.Sheet.{sheet_in}
use Rattle.table.specs.View.{op_row}
use Rattle.folding.specs.Folds.{told}
use Rattle.folding.proofs.tell.Given as goal

abbrev pub invariant-loop-n : goal.invariant-loop-n
invariant-loop-n l = (l.n - l.initial.n ≤ l.n-end - l.initial.n) × (l.x ≡ told (sheet_in l.t) (map (op_row (sheet_in l.t)) (from l.initial.n (l.n - l.initial.n))))
