use native.Mathlib.Omega.{arith}
use Rattle.record.proofs.Rules.{dropped}
use Rattle.record.proofs.flat.WalkRecord.drop_value.Goals as goal

pub returns : goal.returns
returns c = dropped c.args.v.0 c.args.self.now.cells _ c.loop-x.x-index c.loop-x.invariant c.loop-x-test.false (omega arith)
