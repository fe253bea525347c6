-- Where a level's walk stands in the code's tables: the walk, what is handed to each block, and the blocks that wait.
use Rattle.std.specs.Prelude.{◌≡◌, List, ℕ, ◌+◌}
use Rattle.bits.specs.declared.sets.NumberSet.{NumberSet}
use Rattle.entity.specs.declared.forms.Level.{Level}
use Rattle.entity.specs.declared.forms.Level.TheVariants.{Off, Local, Forward, Global}
use Rattle.rules.specs.Sheet.{Sheet}
use Rattle.rules.specs.Record.{fresh}
use Rattle.rules.specs.Forward.{optimise}
use Rattle.rules.specs.{Sheet.block_count, Forward.Walk, Forward.Handed}
use Rattle.table.specs.Sheet.{sheet_in}
use Rattle.record.specs.declared.flat.WalkRecord.{WalkRecord}
use Rattle.states.specs.States.{states_in, Lies}
use Rattle.moves.specs.Walks.{Walked, Written, walk_most}
use Rattle.move_optimizer.specs.declared.levels.Cells.{Cells}

-- the cells that are lent stay the same
pub record SameCells (c c' : Cells) : Type 0 where
  pub rec : c'.rec.ghost_name ≡ c.rec.ghost_name
  pub edits : c'.edits.ghost_name ≡ c.edits.ghost_name
  pub places : c'.places.ghost_name ≡ c.places.ghost_name
  pub counts : c'.counts.ghost_name ≡ c.counts.ghost_name

-- a walk stands in the cells
abbrev pub StandsIn : List ℕ → Cells → ℕ → Walk → Type 0
StandsIn t c n w = Walked t c.rec.now c.edits.now c.places.now c.counts.now n w

-- the walk in the cells goes on by f, and a count goes up at most so often
abbrev pub Goes : List ℕ → Cells → Cells → ℕ → (Walk → Walk) → Type 0
Goes t c c' most f = (n : ℕ) (w : Walk) → StandsIn t c (n + most) w → StandsIn t c' n (f w)

pub record Stands (t : List ℕ) (rec : WalkRecord) (states edits places counts : List ℕ) (waiting : NumberSet) (n : ℕ) (wh : Walk × Handed) : Type 0 where
  pub walked : Walked t rec edits places counts n wh.0
  pub lies : Lies (block_count (sheet_in t)) states waiting wh.1

-- the same when the visits are over: which blocks wait does not matter
pub record Rests (t : List ℕ) (rec : WalkRecord) (states edits places counts : List ℕ) (n : ℕ) (wh : Walk × Handed) : Type 0 where
  pub walked : Walked t rec edits places counts n wh.0
  pub are : states_in states (block_count (sheet_in t)) ≡ wh.1.states

-- how many blocks have a state at a level
unfoldable pub handed_blocks : Sheet → Level → ℕ
handed_blocks sh Off = 0
handed_blocks sh Local = 0
handed_blocks sh Forward = block_count sh
handed_blocks sh Global = block_count sh

-- edits, places and counts after the level's rules, begun with an empty record
abbrev pub Optimises : List ℕ → Level → List ℕ → List ℕ → List ℕ → List ℕ → List ℕ → List ℕ → Type 0
Optimises t level edits places counts edits' places' counts' =
    (n : ℕ) (w : Walk) → w.rec ≡ fresh → Written t edits places counts (n + walk_most) w → Written t edits' places' counts' n (optimise (sheet_in t) level w)
