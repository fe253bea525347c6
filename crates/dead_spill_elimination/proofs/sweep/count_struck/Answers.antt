use Rattle.dead_spill_elimination.proofs.Counting.{counted_as, counted_none}
use Rattle.dead_spill_elimination.proofs.sweep.count_struck.Goals as goal

pub returns-in-Move : goal.returns-in-Move
returns-in-Move c = λ f. counted_as _ c.in-Move.is (c.tally.ensures f.0)

pub returns-in-Remat : goal.returns-in-Remat
returns-in-Remat c = λ f. counted_as _ c.in-Remat.is (c.tally-in-Remat.ensures f.1)

pub returns-in_default : goal.returns-in_default
returns-in_default c = λ f. counted_none _ _ c.in_default.not-Move c.in_default.not-Remat
