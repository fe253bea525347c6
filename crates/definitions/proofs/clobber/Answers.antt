use Rattle.definitions.proofs.Clobbering.{clobbers_none, clobbered}
use Rattle.definitions.proofs.clobber.Goals as goal

pub returns-then-is_empty : goal.returns-then-is_empty
returns-then-is_empty c = λ g. clobbers_none _ _ g (c.clobbers-us.ensures g) _ c.is_empty.ensures c.if-is_empty.true

pub returns : goal.returns
returns c = λ g. clobbered _ _ g (c.clobbers-us.ensures g) _ (c.own_units.ensures g) c.forget_others.ensures
