use Prim.Native.Nat.{ℕ, ◌+◌, ◌-◌, ◌*◌}
use Rattle.laws.specs.Fold.{run}
use Rattle.laws.specs.Lists.{from}
use Rattle.rules.specs.Forward.{Walk, Handed, forward_block}
use Rattle.table.specs.Sheet.{sheet_in}
use Rattle.holders.specs.Holders.{Filled}
use Rattle.moves.specs.Walks.{Ordered, block_most}
use Rattle.move_optimizer.specs.Levels.{SameCells, Stands}
use Rattle.move_optimizer.proofs.BlockWalks.{Passing}
use Rattle.move_optimizer.proofs.levels.forward.Given as goal

abbrev pub invariant-loop-b : goal.invariant-loop-b
invariant-loop-b l = record {
  lent : SameCells l.initial.c l.c;
  goes :
      Ordered l.t → Filled (sheet_in l.t) l.classes → (m : ℕ) (x : Walk × Handed) → Stands l.t l.initial.c.rec.now l.initial.states l.initial.c.edits.now l.initial.c.places.now l.initial.c.counts.now l.initial.w.0 (m + block_most * (l.b-end - l.initial.b)) x
      → Passing (Stands l.t l.c.rec.now l.states l.c.edits.now l.c.places.now l.c.counts.now l.w.0) (forward_block (sheet_in l.t)) block_most m l.b l.b-end (run (forward_block (sheet_in l.t)) x (from l.initial.b (l.b-end - l.initial.b)));
}
