use Rattle.rules.specs.Text.{bytes}
use Rattle.answer.proofs.Laying.{laid_then, laid_as}
use Rattle.answer.proofs.Lines.{fold_line_lem}
use Rattle.answer.proofs.text.Writer.fold.Goals as goal

pub returns : goal.returns
unfolding bytes
returns c =
    laid_as (fold_line_lem _ _ _)
    (laid_then c.text.ensures (laid_then c.next_number.ensures (laid_then c.next_number-2.ensures (laid_then c.next_cell.ensures c.end.ensures))))
