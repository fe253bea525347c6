use mathlib.Core.Path.{sym, ap}
use Rattle.definitions.specs.Definitions.{units_at}
use Rattle.definitions.proofs.Loops.{with_as, with_none}
use Rattle.definitions.proofs.Defining.{members_slot, members_reg}
use Rattle.definitions.proofs.OwnUnits.{units_none}
use Rattle.definitions.proofs.add_group.Goals as goal

pub returns-in-Reg : goal.returns-in-Reg
returns-in-Reg c = λ g. with_as (ap (units_at _) (members_reg _ _ _ _ c.in-Reg.is c.group_values.ensures (c.member_regs.ensures g))) c.add_members.ensures

pub returns-in-Slot : goal.returns-in-Slot
returns-in-Slot c = λ _. with_as (sym (units_none _ (members_slot _ _ _ _ c.in-Slot.is))) (with_none _)
