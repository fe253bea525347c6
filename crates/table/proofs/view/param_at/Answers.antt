use Rattle.table.proofs.Views.{param_is}
use Rattle.table.proofs.view.param_at.Goals as goal

pub returns : goal.returns
returns c = param_is _ _ c.row_of-row.ensures c.read.ensures c.read-2.ensures c.read-3.ensures c.place_of.ensures
