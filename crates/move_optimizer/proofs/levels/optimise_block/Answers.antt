use Rattle.std.proofs.Common.{rules}
use Rattle.move_optimizer.proofs.BlockWalks.{passing_start, optimised_start, optimised_next, optimised_end}
use Rattle.move_optimizer.proofs.levels.optimise_block.Goals as goal

pub loop-i-init : goal.loop-i-init
loop-i-init c = record { lent = search rules; goes = λ o f n w x. passing_start _ _ _ _ _ w x }

pub loop-i-preserved : goal.loop-i-preserved
loop-i-preserved c = record {
  lent = search rules;
  goes = λ o f n w x. optimised_next _ c.loop-i-test.true
      (c.optimise_edits.ensures o f)
      (c.optimise_inst.ensures o.ready f)
      (c.loop-i.invariant.goes o f n w x);
}

pub returns-clause-goes : goal.returns-clause-goes
returns-clause-goes c = λ o f n w x. optimised_end _ w c.insts_of-rows.ensures c.loop-i-test.false o.ready (c.loop-i.invariant.goes o f n _ (optimised_start _ c.insts_of-rows.ensures o.ready c.enter.ensures n w x))
