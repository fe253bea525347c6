use Rattle.dead_spill_elimination.proofs.Members.{place_without, reg_without}
use Rattle.dead_spill_elimination.proofs.wanted.without_place.Goals as goal

pub returns-in-Slot : goal.returns-in-Slot
returns-in-Slot c = λ A. place_without _ _ A c.in-Slot.is c.remove.ensures

pub returns-in-Reg : goal.returns-in-Reg
returns-in-Reg c = λ A. reg_without _ A c.in-Reg.is
