use Rattle.accept.proofs.Reaching.{reached_by_steps}
use Rattle.accept.proofs.blocks.steps_are_enough.Goals as goal

pub returns : goal.returns
returns c = reached_by_steps
