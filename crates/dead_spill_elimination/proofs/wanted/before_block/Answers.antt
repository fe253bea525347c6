use Rattle.dead_spill_elimination.proofs.Down.{going_first, going_next}
use Rattle.dead_spill_elimination.proofs.Blocks.{block_step, block_done}
use Rattle.dead_spill_elimination.proofs.wanted.before_block.Goals as goal

pub loop-i-init : goal.loop-i-init
loop-i-init c = going_first _ _ _ _

pub loop-i-preserved : goal.loop-i-preserved
loop-i-preserved c = going_next _ _ _ _ _ _ _ c.loop-i.invariant c.loop-i-test.true (λ A l h. block_step _ _ _ _ _ _ _ A c.edit_rows.ensures (c.before_inst.ensures A) c.before_edits-live.ensures l h)

pub returns : goal.returns
returns c = block_done _ _ _ _ _ _ _ c.insts_of-insts.ensures c.loop-i.invariant c.loop-i-test.false
