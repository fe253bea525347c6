use Rattle.accept.proofs.Blockwise.{named_stop, named_go}
use Rattle.accept.proofs.blocks.named_back.Goals as goal

pub returns-then-neighbour_of_each : goal.returns-then-neighbour_of_each
returns-then-neighbour_of_each c = named_go _ _ c.neighbour_of_each.ensures c.succs.ensures c.if-neighbour_of_each.true c.neighbour_of_each-then-neighbour_of_each.ensures c.preds.ensures

pub returns-else-neighbour_of_each : goal.returns-else-neighbour_of_each
returns-else-neighbour_of_each c = named_stop _ _ c.neighbour_of_each.ensures c.succs.ensures c.if-neighbour_of_each.false
