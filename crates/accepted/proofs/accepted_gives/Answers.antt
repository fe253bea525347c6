use Rattle.accepted.proofs.Giving.{gives}
use Rattle.accepted.proofs.accepted_gives.Goals as goal

pub returns : goal.returns
returns c = gives
