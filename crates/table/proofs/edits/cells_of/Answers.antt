use mathlib.Core.Path.{refl}
use mathlib.Core.Logic.{inl, inr}
use Rattle.rules.specs.Answer.{edit_cells}
use Rattle.rules.specs.Cells.{word, words, find}
use Rattle.table.proofs.edits.cells_of.Goals as goal

pub returns-in-Move : goal.returns-in-Move
unfolding edit_cells word find words
returns-in-Move c = rw c.in-Move.is (λ s. rw (c.place_cell.ensures s.0, c.place_cell-in-Move.ensures s.1))

pub returns-in-Remat : goal.returns-in-Remat
unfolding edit_cells word find words
returns-in-Remat c = rw c.in-Remat.is (λ s. rw (c.place_cell-in-Remat.ensures s))

pub returns-in-Espill : goal.returns-in-Espill
unfolding edit_cells word find words
returns-in-Espill c = rw c.in-Espill.is (λ s. rw (c.place_cell-in-Espill.ensures s.0, c.place_cell-in-Espill-2.ensures s.1))

pub returns-in-Ereload : goal.returns-in-Ereload
unfolding edit_cells word find words
returns-in-Ereload c = rw c.in-Ereload.is (λ s. rw (c.place_cell-in-Ereload.ensures s.0, c.place_cell-in-Ereload-2.ensures s.1))

pub returns-in-Misplaced : goal.returns-in-Misplaced
unfolding edit_cells word find words
returns-in-Misplaced c = elim c.in-Misplaced.is [ inl w ↦ rw w.2 (λ s. refl) | inr e ↦ rw e (λ s. refl) ]
