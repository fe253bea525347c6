use Rattle.dead_spill_elimination.proofs.Touching.{touched_first, touched_more}
use Rattle.dead_spill_elimination.proofs.touched.touch_all.Goals as goal

pub loop-n-init : goal.loop-n-init
loop-n-init c = touched_first _ _ _

pub loop-n-preserved : goal.loop-n-preserved
loop-n-preserved c = touched_more _ _ _ _ _ c.loop-n.invariant c.touch.ensures
