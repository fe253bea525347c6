use Rattle.table.specs.Edits.{with_edit}
use Rattle.table.proofs.edits.store_edit.Goals as goal

pub returns : goal.returns
unfolding with_edit
returns c = λ s. rw (← c.cells_of.ensures s) cc
