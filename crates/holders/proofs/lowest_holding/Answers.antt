use Rattle.holders.proofs.Holding.{held_nowhere, lowest_is}
use Rattle.holders.proofs.lowest_holding.Goals as goal

pub returns-then-not-somewhere : goal.returns-then-not-somewhere
returns-then-not-somewhere c = held_nowhere _ _ _ _ _ c.somewhere.ensures c.if-not-somewhere.true

pub returns : goal.returns
returns c = lowest_is _ _ _ _ _ c.holders-s.ensures c.class_set.ensures c.meet.ensures c.lowest.ensures
