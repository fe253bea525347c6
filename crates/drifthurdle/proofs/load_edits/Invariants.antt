use Prim.Native.Nat.{ℕ, ◌*◌, ◌≤◌, ◌<◌}
use lib.ListN.{length}
use Rattle.table.specs.Layout.{edit_width}
use Rattle.table.specs.Rows.{count_in}
use Rattle.table.specs.Edits.{edit_at_row}
use Rattle.drifthurdle.specs.Loading.{Storable, EditsLoaded}
use Rattle.drifthurdle.proofs.load_edits.Given as goal

abbrev pub invariant-loop-n : goal.invariant-loop-n
invariant-loop-n l = ((j : ℕ) → j < count_in l.t 12 → Storable (edit_at_row l.t j)) → count_in l.t 12 * edit_width ≤ length l.initial.edits → EditsLoaded l.t l.edits l.n
