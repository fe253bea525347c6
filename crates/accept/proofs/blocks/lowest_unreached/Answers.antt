use Rattle.accept.proofs.Reaching.{reach_next, reached_early, reached_last}
use Rattle.accept.proofs.blocks.lowest_unreached.Goals as goal

pub returns-in_default : goal.returns-in_default
returns-in_default c = λ g. reached_early g _ _ (c.loop.invariant g) c.lowest_outside.ensures c.in_default.is

pub loop-preserved : goal.loop-preserved
loop-preserved c = λ g. reach_next _ _ _ _ (c.loop.invariant g) (c.further-s.ensures g)

pub returns : goal.returns
returns c = λ g. reached_last g _ _ _ c.count-end.ensures c.loop.auto.counter-end c.loop-test.false (c.loop.invariant g) c.lowest_outside-2.ensures
