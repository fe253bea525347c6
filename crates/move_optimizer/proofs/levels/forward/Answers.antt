use Rattle.std.proofs.Common.{rules}
use Rattle.rules.specs.Forward.{forward_start}
use Rattle.table.proofs.Sheets.{blocks_counted}
use Rattle.move_optimizer.proofs.BlockWalks.{passing_start}
use Rattle.move_optimizer.proofs.LevelWalks.{forward_begin, forward_next, forward_end}
use Rattle.move_optimizer.proofs.levels.forward.Goals as goal

pub loop-b-init : goal.loop-b-init
loop-b-init c = record { lent = search rules; goes = λ o f m x y. passing_start _ _ _ _ _ x y }

pub loop-b-preserved : goal.loop-b-preserved
loop-b-preserved c = record {
  lent = search rules;
  goes = λ o f m x y. forward_next c.loop-b-test.true (blocks_counted _ c.count-b-end.ensures) (c.optimise_handed.ensures.goes o f) (c.hand_on-w.ensures o.ready) (c.loop-b.invariant.goes o f m x y);
}

pub returns-clause-goes : goal.returns-clause-goes
returns-clause-goes c = λ o f u n w x. forward_end w (blocks_counted _ c.count-b-end.ensures) c.loop-b-test.false (c.loop-b.invariant.goes o f n (w, forward_start _) (forward_begin o.ready (blocks_counted _ c.count-b-end.ensures) (c.forward_start.ensures o.ready u _ c.empty-w.ensures) n w x))
