use Rattle.rules.specs.Accept.{units_within}
use Rattle.names.proofs.limits.units_within.Goals as goal

pub returns : goal.returns
unfolding units_within
returns c = c.all_below.ensures
