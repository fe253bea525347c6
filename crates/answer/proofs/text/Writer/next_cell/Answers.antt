use mathlib.Core.Path.{ap}
use mathlib.Core.List.{List, ◌∷◌}
use Prim.Native.Nat.{ℕ}
use Rattle.answer.proofs.Laying.{laid_as, laid_then}
use Rattle.answer.proofs.Cells.{cell_number, cell_word, cell_reg, cell_slot}
use Rattle.answer.proofs.text.Writer.next_cell.Goals as goal

abbrev after : List ℕ → List ℕ
after s = 44 ∷ s

pub returns-then-c-lt-LIMIT : goal.returns-then-c-lt-LIMIT
returns-then-c-lt-LIMIT c = laid_as (ap after (cell_number _ c.if-c-lt-LIMIT.true)) c.next_number.ensures

pub returns-then-c-lt-REG : goal.returns-then-c-lt-REG
returns-then-c-lt-REG c = laid_as (ap after (cell_word _ c.if-c-lt-LIMIT.false c.if-c-lt-REG.true)) c.next_word.ensures

pub returns-then-c-lt-SLOT : goal.returns-then-c-lt-SLOT
returns-then-c-lt-SLOT c = laid_as (ap after (cell_reg _ c.if-c-lt-REG.false c.if-c-lt-SLOT.true)) (laid_then c.text.ensures c.number.ensures)

pub returns-else-c-lt-SLOT : goal.returns-else-c-lt-SLOT
returns-else-c-lt-SLOT c = laid_as (ap after (cell_slot _ c.if-c-lt-SLOT.false)) (laid_then c.text-else-c-lt-SLOT.ensures c.number-else-c-lt-SLOT.ensures)
