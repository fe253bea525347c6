use Rattle.std.proofs.Common.{inl, inr}
use Rattle.dead_spill_elimination.proofs.Members.{before_move, before_load, before_remat, before_espill, before_ereload, before_misplaced, before_none}
use Rattle.dead_spill_elimination.proofs.wanted.before_edit.Goals as goal

pub returns-in-Move-Slot-default-default : goal.returns-in-Move-Slot-default-default
returns-in-Move-Slot-default-default c = let m = c.in-Move-Slot-default-default in λ A. before_move _ _ A m.is (rw m.is at m.to-is) (c.moved.ensures A)

pub returns-in-Move-Reg-default-default : goal.returns-in-Move-Reg-default-default
returns-in-Move-Reg-default-default c = let m = c.in-Move-Reg-default-default in λ A. before_load _ _ A m.is (rw m.is at m.to-is) c.with_place.ensures

pub returns-in-Remat : goal.returns-in-Remat
returns-in-Remat c = λ A. before_remat _ _ A c.in-Remat.is (c.without_place.ensures A)

pub returns-in-Espill : goal.returns-in-Espill
returns-in-Espill c = λ A. before_espill _ _ A c.in-Espill.is c.remove.ensures

pub returns-in-Ereload : goal.returns-in-Ereload
returns-in-Ereload c = λ A. before_ereload _ _ A c.in-Ereload.is c.insert.ensures

pub returns-in-Misplaced : goal.returns-in-Misplaced
returns-in-Misplaced c = λ A. elim c.in-Misplaced.is [ inl m ↦ before_misplaced _ A m.2 | inr n ↦ before_none _ A n ]
