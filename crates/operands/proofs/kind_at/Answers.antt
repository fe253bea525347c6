use Rattle.operands.proofs.Fields.{kind_is}
use Rattle.operands.proofs.kind_at.Goals as goal

pub returns : goal.returns
returns c = kind_is _ _ c.row_of-row.ensures c.read.ensures c.read-2.ensures c.kind_of.ensures
