use mathlib.Core.Path.{◌≡◌}
use Prim.Native.Nat.{ℕ, ◌+◌, ◌-◌, ◌*◌}
use Rattle.laws.specs.Fold.{run}
use Rattle.laws.specs.Lists.{from}
use Rattle.rules.specs.Forward.{Walk, Handed, begun}
use Rattle.rules.specs.Sheet.{block_count}
use Rattle.table.specs.Sheet.{sheet_in}
use Rattle.states.specs.States.{states_in}
use Rattle.holders.specs.Holders.{Filled}
use Rattle.moves.specs.Walks.{Ordered, block_most}
use Rattle.move_optimizer.specs.Levels.{SameCells, StandsIn}
use Rattle.move_optimizer.proofs.BlockWalks.{Passing}
use Rattle.move_optimizer.proofs.LevelWalks.{blockwise}
use Rattle.move_optimizer.proofs.levels.global.Given as goal

abbrev pub invariant-loop-b : goal.invariant-loop-b
invariant-loop-b l = record {
  lent : SameCells l.initial.c l.c;
  goes :
      Ordered l.t → Filled (sheet_in l.t) l.classes → (h : Handed) → states_in l.states (block_count (sheet_in l.t)) ≡ h.states → (m : ℕ) (w : Walk)
      → StandsIn l.t l.initial.c (m + block_most * (l.b-end - l.initial.b)) w
      → Passing (StandsIn l.t l.c) (blockwise (sheet_in l.t) (begun (sheet_in l.t) h)) block_most m l.b l.b-end (run (blockwise (sheet_in l.t) (begun (sheet_in l.t) h)) w (from l.initial.b (l.b-end - l.initial.b)));
}
