use Rattle.dead_spill_elimination.proofs.Members.{place_with, reg_with}
use Rattle.dead_spill_elimination.proofs.wanted.with_place.Goals as goal

pub returns-in-Slot : goal.returns-in-Slot
returns-in-Slot c = λ A. place_with _ _ A c.in-Slot.is c.insert.ensures

pub returns-in-Reg : goal.returns-in-Reg
returns-in-Reg c = λ A. reg_with _ A c.in-Reg.is
