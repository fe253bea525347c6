use Rattle.laws.proofs.Lists.{run_again, run_done}
use Rattle.record.proofs.flat.WalkRecord.each_unit.Goals as goal

pub loop-u-preserved : goal.loop-u-preserved
loop-u-preserved g c = λ f k. run_again f 0 _ _ (k _ _ _ c.change.ensures) c.loop-u-test.true (c.loop-u.invariant f k)

pub returns : goal.returns
returns g c = λ f k. run_done f 0 _ _ c.loop-u-test.false (c.loop-u.invariant f k)
