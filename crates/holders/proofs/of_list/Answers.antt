use Rattle.holders.proofs.Holding.{list_none, list_next}
use Rattle.holders.proofs.of_list.Goals as goal

pub loop-r-init : goal.loop-r-init
loop-r-init c = list_none _ c.args.rs.now c.empty-s.ensures

pub loop-r-preserved : goal.loop-r-preserved
loop-r-preserved c = list_next _ _ _ c.loop-r-test.true (c.with_reg-s.ensures _ c.loop-r.invariant)
