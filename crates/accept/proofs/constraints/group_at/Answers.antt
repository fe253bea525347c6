use Rattle.accept.proofs.Operandwise.{group_slot, group_classless, group_classed}
use Rattle.accept.proofs.Heads.{heads_begin}
use mathlib.Core.Path.{◌∙◌}
use Rattle.accept.proofs.constraints.group_at.Goals as goal

pub returns-in_default : goal.returns-in_default
returns-in_default c = λ q. group_slot _ _ _ _ c.in_default.is

pub returns-in_default-class_for : goal.returns-in_default-class_for
returns-in_default-class_for c = λ q. group_classless _ _ _ _ c.in-Reg.is c.class_for.ensures c.in_default-class_for.is

pub returns : goal.returns
returns c = λ q g. group_classed _ _ _ _ c.in-Reg.is c.class_for.ensures _ _ _ c.in-Some.is c.group_values.ensures (c.is_in.ensures ∙ heads_begin g _ _ _ c.head.ensures q) g
