use Rattle.dead_spill_elimination.proofs.Striking.{edits_first, edits_next, edits_done}
use Rattle.dead_spill_elimination.proofs.sweep.strike_edits.Goals as goal

pub loop-n-init : goal.loop-n-init
loop-n-init c = edits_first _ _ _ _ _

pub loop-n-preserved : goal.loop-n-preserved
loop-n-preserved c = edits_next _ _ _ _ _ _ c.loop-n.invariant c.loop-n-test.true c.strike-live.auto.marks c.strike-live.ensures

pub returns : goal.returns
returns c = edits_done _ _ _ _ _ _ c.loop-n.invariant c.loop-n-test.false
