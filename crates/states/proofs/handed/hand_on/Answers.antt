use Rattle.laws.specs.Fold.{run}
use Rattle.record.specs.Flat.{record_of}
use Rattle.states.proofs.HandingOn.{hand_next, hand_end}
use Rattle.states.proofs.handed.hand_on.Goals as goal

pub loop-x-init : goal.loop-x-init
unfolding run
loop-x-init c = λ a g e h lies. lies

pub loop-x-preserved : goal.loop-x-preserved
unfolding run
loop-x-preserved c = let x = c.args in let bs = c.succs-bs.result.now in λ a g e h lies. hand_next x.t.now a c.loop-x.x-index bs (record_of x.rec.now) _ _ _ _ h g e c.loop-x-test.true (c.loop-x.invariant a g e h lies) c.hand_to-w.ensures

pub returns : goal.returns
unfolding run
returns c = let x = c.args in λ g h lies. hand_end x.t.now x.b.0 c.loop-x.x-index c.succs-bs.result.now (record_of x.rec.now) _ _ h (c.succs-bs.ensures g) c.loop-x-test.false (c.loop-x.invariant x.b.0 g (c.succs-bs.ensures g) h lies)
