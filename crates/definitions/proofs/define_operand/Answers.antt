use mathlib.Core.Path.{sym, ◌∙◌}
use Rattle.definitions.proofs.Defining.{defines_as, takes_all, group_defs, members_row}
use Rattle.definitions.proofs.define_operand.Goals as goal

pub returns-in-DefGroup : goal.returns-in-DefGroup
returns-in-DefGroup c = λ g. defines_as _ _ _ (members_row _ _ _ c.operand_at.ensures ∙ sym (takes_all _ _ _ c.kind_at-kind.ensures c.is_early.ensures c.takes.ensures c.if-not-takes.false ∙ group_defs _ _ c.kind_at-kind.ensures c.in-DefGroup.is)) (c.define_group.ensures g)
