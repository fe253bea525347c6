use Rattle.dead_spill_elimination.proofs.Striking.{Edits}
use Rattle.dead_spill_elimination.proofs.sweep.strike_edits.Given as goal

abbrev pub invariant-loop-n : goal.invariant-loop-n
invariant-loop-n l = Edits l.fn.rows l.edits l.initial.marks l.initial.counts l.initial.live.0 l.marks l.counts l.live.0 l.n
