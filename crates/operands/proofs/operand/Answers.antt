use native.Mathlib.Omega.{arith}
use Rattle.operands.proofs.Finding.{operand_none, operand_some}
use Rattle.operands.proofs.operand.Goals as goal

pub returns-then-saturating_sub-k : goal.returns-then-saturating_sub-k
returns-then-saturating_sub-k c = operand_none _ _ _ _ c.op_rows-rows.ensures (omega arith)

pub returns : goal.returns
returns c = operand_some _ _ _ _ c.op_rows-rows.ensures _ (omega arith) c.operand_at.ensures
