use Rattle.definitions.proofs.OwnUnits.{in_reg, in_slot}
use Rattle.definitions.proofs.add_place.Goals as goal

pub returns-in-Reg : goal.returns-in-Reg
returns-in-Reg c = in_reg _ _ c.in-Reg.is c.add_units.ensures

pub returns-in-Slot : goal.returns-in-Slot
returns-in-Slot c = in_slot _ _ _ c.in-Slot.is
