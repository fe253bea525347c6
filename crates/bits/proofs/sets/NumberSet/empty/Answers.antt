use mathlib.Core.Path.{ap}
use Rattle.laws.proofs.Words.{empty_is}
use Rattle.bits.specs.Sets.{made}
use Rattle.bits.proofs.sets.NumberSet.empty.Goals as goal

pub returns : goal.returns
returns c = ap made (empty_is 4)
