use Rattle.definitions.proofs.Defining.{group_defs, no_defs, members_row}
use Rattle.definitions.proofs.OwnUnits.{adds_one, adds_group, adds_none}
use Rattle.definitions.proofs.add_operand.Goals as goal

pub returns-in-Def : goal.returns-in-Def
returns-in-Def c = adds_one _ _ c.kind_at.ensures c.in-Def.is c.place_at.ensures c.add_place.ensures

pub returns-in-DefGroup : goal.returns-in-DefGroup
returns-in-DefGroup c = adds_group _ _ (group_defs _ _ c.kind_at.ensures c.in-DefGroup.is) (members_row _ _ _ c.operand_at.ensures) c.add_group.ensures

pub returns-in_default : goal.returns-in_default
returns-in_default c = let d = c.in_default in adds_none _ _ (no_defs _ _ c.kind_at.ensures d.not-Def d.not-EarlyDef d.not-DefGroup d.not-EarlyDefGroup)
