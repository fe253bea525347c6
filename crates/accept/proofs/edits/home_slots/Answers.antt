use Rattle.accept.proofs.Pairing.{homes_none, homes_next, homes_end}
use Rattle.accept.proofs.edits.home_slots.Goals as goal

pub loop-v-init : goal.loop-v-init
loop-v-init c = homes_none _ _ c.empty-s.ensures

pub loop-v-preserved : goal.loop-v-preserved
loop-v-preserved c = homes_next _ _ _ (c.with_home-s.ensures _ c.loop-v.invariant)

pub returns : goal.returns
returns c = homes_end _ _ _ _ c.count-v-end.ensures c.loop-v.auto.v-end c.loop-v-test.false c.loop-v.invariant
