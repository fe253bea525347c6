use mathlib.Core.Path.{sym, ◌∙◌}
use Rattle.marks.proofs.Marking.{marked_read, unmarked_read}
use Rattle.dead_spill_elimination.proofs.sweep.unstruck.Goals as goal

pub returns-then-read-ne0 : goal.returns-then-read-ne0
returns-then-read-ne0 c = sym (marked_read _ _ _ (λ z. c.if-read-ne0.true (c.read.ensures ∙ z)))

pub returns : goal.returns
returns c = c.read_edit.ensures ∙ sym (unmarked_read _ _ _ (sym c.read.ensures ∙ c.if-read-ne0.false))
