use Prim.Native.Nat.{ℕ, ◌+◌, ◌-◌, ◌*◌}
use Rattle.laws.specs.Fold.{run}
use Rattle.laws.specs.Lists.{from}
use Rattle.rules.specs.Forward.{Walk}
use Rattle.table.specs.Sheet.{sheet_in}
use Rattle.holders.specs.Holders.{Filled}
use Rattle.moves.specs.Walks.{Ordered, inst_most}
use Rattle.move_optimizer.specs.Levels.{SameCells, StandsIn}
use Rattle.move_optimizer.proofs.BlockWalks.{Passing, optimises}
use Rattle.move_optimizer.proofs.levels.optimise_block.Given as goal

abbrev pub invariant-loop-i : goal.invariant-loop-i
invariant-loop-i l = record {
  lent : SameCells l.initial.c l.c;
  goes :
      Ordered l.t → Filled (sheet_in l.t) l.classes → (n : ℕ) (w : Walk) → StandsIn l.t l.initial.c (n + inst_most * (l.i-end - l.initial.i)) w
      → Passing (StandsIn l.t l.c) (optimises (sheet_in l.t) l.b.0) inst_most n l.i l.i-end (run (optimises (sheet_in l.t) l.b.0) w (from l.initial.i (l.i-end - l.initial.i)));
}
