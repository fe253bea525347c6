use Rattle.moves.proofs.Moving.{edit_move, edit_remat, edit_other}
use Rattle.moves.proofs.optimise_edit.Goals as goal

pub returns-in-Move : goal.returns-in-Move
returns-in-Move c = let a = c.args in
    edit_move a.b.0 a.j.0 c.read_edit-e.ensures
    c.in-Move.is
    c.optimise_move.ensures

pub returns-in-Remat : goal.returns-in-Remat
returns-in-Remat c = let a = c.args in
    edit_remat a.b.0 a.j.0 c.read_edit-e.ensures
    c.in-Remat.is
    c.optimise_move-in-Remat.ensures

pub returns-in_default : goal.returns-in_default
returns-in_default c = let a = c.args in edit_other a.b.0 a.j.0 c.read_edit-e.ensures c.in_default.not-Move c.in_default.not-Remat c.effect.ensures
