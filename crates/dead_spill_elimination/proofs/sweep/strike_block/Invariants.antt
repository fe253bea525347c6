use Rattle.dead_spill_elimination.proofs.Striking.{Block}
use Rattle.dead_spill_elimination.proofs.sweep.strike_block.Given as goal

abbrev pub invariant-loop-i : goal.invariant-loop-i
invariant-loop-i l = Block l.t l.touched (record { from = l.i-start; to = l.initial.i }) l.edits l.initial.marks l.initial.counts l.initial.live.0 l.marks l.counts l.live.0 l.i
