use Rattle.dead_spill_elimination.specs.Slots.{step_back, Lows}
use Rattle.dead_spill_elimination.proofs.Down.{Going}
use Rattle.dead_spill_elimination.proofs.wanted.before_block.Given as goal

abbrev pub invariant-loop-i : goal.invariant-loop-i
invariant-loop-i l = Going (Lows l.t l.edits) (step_back l.t l.edits l.touched) (record { from = l.i-start; to = l.initial.i }) l.initial.live.0 l.live.0 l.i
