use Rattle.dead_spill_elimination.proofs.Striking.{inst_done}
use Rattle.dead_spill_elimination.proofs.sweep.strike_inst.Goals as goal

pub returns : goal.returns
returns c = λ w l k x p. inst_done w l _ _ _ c.edit_rows.ensures k x p (c.before_inst-after.ensures _ p.wanted) (c.strike_edits.ensures w _)
