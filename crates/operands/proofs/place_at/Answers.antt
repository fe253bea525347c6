use Rattle.operands.proofs.Fields.{place_is}
use Rattle.operands.proofs.place_at.Goals as goal

pub returns : goal.returns
returns c = place_is _ _ c.row_of.ensures c.read.ensures c.place_of.ensures
