use Rattle.operands.proofs.Finding.{reused_none, reused_some}
use Rattle.operands.proofs.reused_class.Goals as goal

pub returns-in_default : goal.returns-in_default
returns-in_default c = reused_none _ _ _ c.operand.ensures c.in_default.is

pub returns : goal.returns
returns c = reused_some _ _ _ c.operand.ensures _ _ c.in-Some.is c.class_of.ensures
