use Rattle.move_optimizer.proofs.BlockWalks.{entered_next, entered_end}
use Rattle.move_optimizer.proofs.levels.enter.Goals as goal

pub loop-n-preserved : goal.loop-n-preserved
loop-n-preserved c = entered_next _ _ _ c.param_at-p.ensures c.loop-n-test.true c.define.ensures c.loop-n.invariant

pub returns : goal.returns
returns c = λ g. entered_end _ _ _ _ c.param_rows-rows.ensures c.loop-n-test.false g c.loop-n.invariant
