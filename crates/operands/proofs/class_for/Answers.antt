use Rattle.operands.proofs.Finding.{for_own, for_reuse}
use Rattle.operands.proofs.class_for.Goals as goal

pub returns-in-Reuse : goal.returns-in-Reuse
returns-in-Reuse c = for_reuse _ _ _ _ c.in-Reuse.is c.reused_class.ensures

pub returns-in_default : goal.returns-in_default
returns-in_default c = for_own _ _ c.in_default.not-Reuse c.class_of.ensures
