use Rattle.dead_spill_elimination.proofs.Striking.{block_first, block_next, block_last}
use Rattle.dead_spill_elimination.proofs.sweep.strike_block.Goals as goal

pub loop-i-init : goal.loop-i-init
loop-i-init c = block_first _ _ _ _ _ _ _

pub loop-i-preserved : goal.loop-i-preserved
loop-i-preserved c = block_next _ _ _ _ _ _ _ _ c.loop-i.invariant c.loop-i-test.true c.strike_inst-live.ensures

pub returns : goal.returns
returns c = block_last _ _ _ _ _ _ _ _ _ c.loop-i.invariant c.loop-i-test.false c.insts_of-insts.ensures
