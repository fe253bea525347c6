use Rattle.answer.proofs.Laying.{laid_none, laid_as}
use Rattle.answer.proofs.Lines.{fold_none, fold_some}
use Rattle.answer.proofs.text.Writer.fold_of.Goals as goal

pub returns-else-place-read : goal.returns-else-place-read
returns-else-place-read c = laid_as (fold_none _ _ _ _ _ _ c.row_of-row.ensures c.read-place.ensures c.read.ensures c.if-place-read.false) (laid_none _)

pub returns-then-place-read : goal.returns-then-place-read
returns-then-place-read c = laid_as (fold_some _ _ _ _ _ _ c.row_of-row.ensures c.read-place.ensures c.read.ensures _ _ _ c.if-place-read.true c.read-then-place-read.ensures c.op_rows-rows.ensures c.saturating_sub.ensures) c.fold.ensures
