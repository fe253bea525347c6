use Rattle.answer.proofs.Laying.{laid_then}
use Rattle.answer.proofs.text.Writer.next_number.Goals as goal

pub returns : goal.returns
returns c = laid_then c.text.ensures c.number.ensures
