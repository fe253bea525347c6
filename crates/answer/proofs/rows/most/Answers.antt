use Rattle.answer.specs.Rows.{answer_most}
use Rattle.answer.proofs.rows.most.Goals as goal

pub returns : goal.returns
unfolding answer_most
returns c = rw (c.count.ensures, c.count-2.ensures)
