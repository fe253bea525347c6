use Rattle.holders.proofs.Holding.{some_none, some_next}
use Rattle.holders.proofs.somewhere.Goals as goal

pub loop-r-init : goal.loop-r-init
loop-r-init c = some_none _

pub loop-r-preserved : goal.loop-r-preserved
loop-r-preserved c = some_next _ _ c.loop-r.invariant c.holds-x.ensures
