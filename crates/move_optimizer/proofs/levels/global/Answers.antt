use Rattle.std.proofs.Common.{rules}
use Prim.Native.Nat.{◌+◌}
use native.Mathlib.Omega.{arith}
use Rattle.table.proofs.Sheets.{blocks_counted}
use Rattle.moves.specs.Walks.{all_most, visit_most}
use Rattle.moves.proofs.Walks.{walked_fewer}
use Rattle.move_optimizer.proofs.BlockWalks.{passing_start}
use Rattle.move_optimizer.proofs.LevelWalks.{block_begun, block_next, global_end}
use Rattle.move_optimizer.proofs.levels.global.Goals as goal

pub loop-b-init : goal.loop-b-init
loop-b-init c = record { lent = search rules; goes = λ o f h e m w x. passing_start _ _ _ _ _ w x }

pub loop-b-preserved : goal.loop-b-preserved
loop-b-preserved c = record {
  lent = search rules;
  goes = λ o f h e m w x. block_next _ c.loop-b-test.true (block_begun _ _ h e c.loop-b-test.true (blocks_counted _ c.count-b-end.ensures) (c.optimise_handed.ensures.goes o f)) (c.loop-b.invariant.goes o f h e m w x);
}

pub returns-clause-goes : goal.returns-clause-goes
returns-clause-goes c = λ o f u n w x. global_end w o.ready (blocks_counted _ c.count-b-end.ensures) c.loop-b-test.false (c.visits.ensures o u _ (n + all_most) w (walked_fewer (n + all_most + visit_most) (omega arith) x)) (λ h e m w x. c.loop-b.invariant.goes o f h e m w x)
