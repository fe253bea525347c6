use Rattle.std.proofs.Common.{refl}
use Rattle.dead_spill_elimination.proofs.Overall.{all_first, all_next, all_done}
use Rattle.dead_spill_elimination.proofs.sweep.strike_all.Goals as goal

pub loop-b-init : goal.loop-b-init
loop-b-init c = all_first _ _ _ _ _ _

pub loop-b-preserved : goal.loop-b-preserved
loop-b-preserved c = all_next _ _ _ _ _ _ _ c.loop-b.invariant c.loop-b.auto.marks c.loop-b-test.true refl c.slots_of-live.ensures c.strike_block.ensures

pub returns : goal.returns
returns c = all_done _ _ _ _ _ _ _ c.loop-b.invariant c.loop-b-test.false
