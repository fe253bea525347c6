use Rattle.table.proofs.Views.{operand_is}
use Rattle.table.proofs.view.operand_at.Goals as goal

pub returns : goal.returns
returns c = operand_is _ _ c.row_of-row.ensures c.read.ensures c.read-2.ensures c.read-3.ensures c.read-4.ensures c.read-5.ensures c.kind_of.ensures c.constraint_of.ensures c.place_of.ensures
