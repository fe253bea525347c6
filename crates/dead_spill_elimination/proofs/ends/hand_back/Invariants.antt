use Rattle.std.proofs.Common.{◌≡◌, drop}
use Rattle.laws.specs.Fold.{run}
use Rattle.dead_spill_elimination.specs.Worklist.{give}
use Rattle.dead_spill_elimination.proofs.ends.hand_back.Given as goal

abbrev pub invariant-loop-p : goal.invariant-loop-p
invariant-loop-p l = run (give l.v) (record { live = l.ends; wait = l.wait }) (drop l.p-index l.ps) ≡ run (give l.v) (record { live = l.initial.ends; wait = l.initial.wait }) l.ps
