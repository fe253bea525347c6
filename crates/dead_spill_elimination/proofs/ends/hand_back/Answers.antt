use Rattle.laws.proofs.Lists.{run_again, run_done}
use Rattle.dead_spill_elimination.specs.Worklist.{spread}
use Rattle.dead_spill_elimination.proofs.ends.hand_back.Goals as goal

pub loop-p-preserved : goal.loop-p-preserved
loop-p-preserved c = run_again _ 0 _ _ c.hand_to.ensures c.loop-p-test.true c.loop-p.invariant

pub returns : goal.returns
unfolding spread
returns c = run_done _ 0 _ _ c.loop-p-test.false c.loop-p.invariant
