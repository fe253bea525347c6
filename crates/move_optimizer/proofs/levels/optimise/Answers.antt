use Rattle.move_optimizer.proofs.LevelWalks.{is_off}
use Rattle.move_optimizer.proofs.levels.optimise.Goals as goal

pub returns-in-Off : goal.returns-in-Off
returns-in-Off c = λ o n w e x. is_off c.in-Off.is n w x

pub returns-in_default : goal.returns-in_default
returns-in_default c = c.by_blocks.ensures
