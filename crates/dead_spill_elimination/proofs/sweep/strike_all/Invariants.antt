use Rattle.dead_spill_elimination.proofs.Overall.{Overall}
use Rattle.dead_spill_elimination.proofs.sweep.strike_all.Given as goal

abbrev pub invariant-loop-b : goal.invariant-loop-b
invariant-loop-b l = Overall l.t l.touched l.ends l.edits l.initial.marks l.initial.counts l.marks l.counts l.b
