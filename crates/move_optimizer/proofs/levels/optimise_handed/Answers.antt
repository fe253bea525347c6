use Rattle.move_optimizer.proofs.LevelWalks.{block_taken}
use Rattle.move_optimizer.proofs.levels.optimise_handed.Goals as goal

pub returns-clause-goes : goal.returns-clause-goes
returns-clause-goes c = λ o f n w x. block_taken _ _ c.take_in.ensures (c.optimise_block.ensures.goes o f) n w x
