use Rattle.drifthurdle.proofs.Fitting.{no_room, room}
use Rattle.drifthurdle.proofs.measured.Goals as goal

pub returns-then-out-length : goal.returns-then-out-length
returns-then-out-length c = λ w x. no_room _ _ (c.render-length.ensures w x).0 c.if-out-length.true

pub returns : goal.returns
returns c = λ w x. room _ _ (c.render-length.ensures w x).0 c.if-out-length.false (c.render.ensures w x).1
