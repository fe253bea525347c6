use Rattle.accept.proofs.Operandwise.{reuses_none, reuses_some}
use Rattle.accept.proofs.constraints.reuses.Goals as goal

pub returns-in_default : goal.returns-in_default
returns-in_default c = reuses_none _ _ _ c.operand.ensures c.in_default.is

pub returns : goal.returns
returns c = reuses_some _ _ _ c.operand.ensures _ _ c.in-Some.is c.reuse_holds.ensures
