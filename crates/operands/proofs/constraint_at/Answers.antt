use Rattle.operands.proofs.Fields.{constraint_is}
use Rattle.operands.proofs.constraint_at.Goals as goal

pub returns : goal.returns
returns c = constraint_is _ _ c.row_of.ensures c.read.ensures c.constraint_of.ensures
