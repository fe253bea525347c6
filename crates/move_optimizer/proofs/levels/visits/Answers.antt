use mathlib.Core.Path.{sym, ◌∙◌}
use native.Mathlib.Omega.{arith}
use Rattle.rules.specs.Forward.{global_start}
use Rattle.visiting.proofs.Loops.{capped}
use Rattle.moves.proofs.Walks.{walked_fewer}
use Rattle.move_optimizer.proofs.Visits.{walking_start, walking_again, walking_stop, walking_out}
use Rattle.move_optimizer.proofs.levels.visits.Goals as goal

pub loop-init : goal.loop-init
loop-init c = λ o places n wh st. walking_start wh st

pub returns-in-None : goal.returns-in-None
returns-in-None c = λ o u places n w x. rw (capped _ o.ready.limits w) at (walking_stop _ c.loop.counter o.ready (c.loop.invariant o places n (w, global_start _) (record { walked = walked_fewer _ (omega arith) x; lies = c.global_start-w.ensures o.ready u })) (sym c.in-None.is ∙ c.lowest.ensures))

pub loop-preserved : goal.loop-preserved
loop-preserved c = λ o places n wh st. walking_again _ c.loop.counter o.ready (c.loop.invariant o places n wh st) (sym c.in-Some.is ∙ c.lowest.ensures) c.loop-test.true (λ n wh u st. c.visit-w.ensures o places n u wh st)

pub returns : goal.returns
returns c = λ o u places n w x. rw (capped _ o.ready.limits w) at (walking_out _ c.loop.counter o.ready (c.loop.invariant o places n (w, global_start _) (record { walked = walked_fewer _ (omega arith) x; lies = c.global_start-w.ensures o.ready u })) c.loop-test.false)
