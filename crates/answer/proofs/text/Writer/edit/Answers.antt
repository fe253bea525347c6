use Rattle.rules.specs.Text.{bytes}
use Rattle.answer.proofs.Laying.{laid_then, laid_as}
use Rattle.answer.proofs.Lines.{edit_line}
use Rattle.answer.proofs.text.Writer.edit.Goals as goal

pub returns : goal.returns
unfolding bytes
returns c =
    laid_as (edit_line _ _ _ _ _ _ _ _ c.edit_at.ensures c.read.ensures c.read-2.ensures c.read-3.ensures c.read-4.ensures)
    (laid_then c.text.ensures (laid_then c.next_cell.ensures (laid_then c.next_cell-2.ensures (laid_then c.next_cell-3.ensures (laid_then c.next_cell-4.ensures (laid_then c.next_cell-5.ensures c.end.ensures))))))
