use Rattle.answer.proofs.Lines.{laid_no_row, laid_row, laid_rows}
use Rattle.answer.proofs.text.Writer.edits.Goals as goal

pub loop-n-init : goal.loop-n-init
loop-n-init c = laid_no_row _ _

pub loop-n-preserved : goal.loop-n-preserved
loop-n-preserved c = laid_row _ _ c.loop-n.invariant c.edit.ensures

pub returns : goal.returns
returns c = laid_rows _ _ _ _ c.loop-n.auto.n-end c.loop-n-test.false c.count-n-end.ensures c.loop-n.invariant
