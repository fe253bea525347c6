use Rattle.move_optimizer.proofs.Visits.{visit_exit, visit_on}
use Rattle.move_optimizer.proofs.levels.visit.Goals as goal

pub returns-then-succs-eq0 : goal.returns-then-succs-eq0
returns-then-succs-eq0 c = λ o places n u wh st. visit_exit wh _ st (c.succs.ensures o.ready) c.if-succs-eq0.true c.remove-w.ensures

pub returns : goal.returns
returns c = λ o places n u wh st. visit_on wh _ st _ u (c.succs.ensures o.ready) c.if-succs-eq0.false c.remove-w.ensures c.take_in.ensures (c.prepare_block.ensures o) c.tally.ensures (c.hand_on.ensures o.ready)
