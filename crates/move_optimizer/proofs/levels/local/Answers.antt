use Rattle.std.proofs.Common.{rules}
use Rattle.rules.specs.Record.{nothing}
use Rattle.table.proofs.Sheets.{blocks_counted}
use Rattle.move_optimizer.proofs.BlockWalks.{passing_start}
use Rattle.move_optimizer.proofs.LevelWalks.{block_taken, block_next, blocks_start, blocks_end, is_local}
use Rattle.states.proofs.TakingIn.{nothing_taken}
use Rattle.move_optimizer.proofs.levels.local.Goals as goal

pub loop-b-init : goal.loop-b-init
loop-b-init c = record { lent = search rules; goes = λ o f m w x. passing_start _ _ _ _ _ w x }

pub loop-b-preserved : goal.loop-b-preserved
loop-b-preserved c = record {
  lent = search rules;
  goes = λ o f m w x. block_next _ c.loop-b-test.true
      (block_taken _ nothing (nothing_taken _ _ c.begin_empty.ensures)
      (c.optimise_block.ensures.goes o f))
      (c.loop-b.invariant.goes o f m w x);
}

pub returns-clause-goes : goal.returns-clause-goes
returns-clause-goes c = λ o f n w x. is_local w (blocks_end _ w (blocks_counted _ c.count-b-end.ensures) c.loop-b-test.false (c.loop-b.invariant.goes o f n w (blocks_start o.ready (blocks_counted _ c.count-b-end.ensures) n w x)))
