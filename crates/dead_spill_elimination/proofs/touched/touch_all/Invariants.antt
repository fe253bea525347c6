use Rattle.std.proofs.Common.{◌≡◌}
use Rattle.dead_spill_elimination.specs.Touched.{touched_to}
use Rattle.dead_spill_elimination.proofs.touched.touch_all.Given as goal

abbrev pub invariant-loop-n : goal.invariant-loop-n
invariant-loop-n l = l.words ≡ touched_to l.t l.places l.initial.words l.n
