-- A walk of the definitions as it lies in the code's tables: the record, the edits, the operands' places, the counts.
use Rattle.std.specs.Prelude.{◌≡◌, true, List, ℕ, ◌+◌, ◌*◌, ◌≤◌, ◌<◌, eqb, length, get_or}
use Rattle.laws.specs.{Fold.run, Lists.keep}
use Rattle.entity.specs.Limits.{slot_limit, reg_limit, block_limit, inst_limit, operand_limit, edit_limit}
use Rattle.entity.specs.declared.forms.Edit.{Edit, TheVariants.Nothing}
use Rattle.rules.specs.{Sheet.Sheet, Sheet.insts_of, Accept.in_order, Record.Record, Record.define, Record.effect}
use Rattle.rules.specs.Forward.{Walk, with_rec, edits_at, optimise_edit, optimise_inst, prepare_inst}
use Rattle.table.specs.{Layout.edit_width, Sheet.sheet_in, Index.Ready, Written.InCells}
use Rattle.record.specs.Flat.{record_of}
use Rattle.record.specs.declared.flat.WalkRecord.{WalkRecord}
use Rattle.holders.specs.Holders.{Filled}

-- refusals 1 to 3 are past and the index is built; of 6, that edits stand in order
pub record Ordered (t : List ℕ) : Type 0 where
  pub ready : Ready t
  pub order : in_order (sheet_in t).edits ≡ true

-- how often a count goes up at most: in an instruction, in a block, in all blocks, in the visits of the preparing walk; and this is more than in any walk
abbrev pub inst_most : ℕ
inst_most = edit_limit + operand_limit

abbrev pub block_most : ℕ
block_most = inst_most * inst_limit

abbrev pub all_most : ℕ
all_most = block_most * block_limit

abbrev pub visit_most : ℕ
visit_most = block_limit * (reg_limit + slot_limit + 2)

abbrev pub walk_most : ℕ
walk_most = 200000000

-- the walk's edits, places and counts stand in these cells; each count can go up n times more
pub record Written (t edits places counts : List ℕ) (n : ℕ) (w : Walk) : Type 0 where
  pub edit_room : length (sheet_in t).edits * edit_width ≤ length edits
  pub place_room : length (sheet_in t).ops ≤ length places
  pub in_cells : InCells t edits places w.edits w.places
  pub few : (k : ℕ) → get_or counts k 0 + n < 4294967296
  pub is_counts : w.counts ≡ counts

-- and its record is this one
pub record Walked (t : List ℕ) (rec : WalkRecord) (edits places counts : List ℕ) (n : ℕ) (w : Walk) : Type 0 where
  pub is_rec : w.rec ≡ record_of rec
  pub cells : Written t edits places counts n w

-- what one edit, row j, in block b makes of the record, the edits and the counts
pub record Optimises (t classes : List ℕ) (rec : WalkRecord) (edits counts : List ℕ) (rec' : WalkRecord) (edits' counts' : List ℕ) (b j : ℕ) : Type 0 where
  pub goes : Ready t → Filled (sheet_in t) classes → (places : List ℕ) (n : ℕ) (w : Walk) → j < length (sheet_in t).edits
      → Walked t rec edits places counts (n + 1) w → Walked t rec' edits' places counts' n (optimise_edit (sheet_in t) b w j)

-- ---- a block, once the record has taken in what was handed to it

module _ (sh : Sheet) where
  -- "then each of its parameter rows defines its value at its place"
  unfoldable pub entered : ℕ → Record → Record
  entered b s = run (λ u p. define sh b p.value p.place u) s (keep (λ p. eqb p.at b) sh.params)

  unfoldable pub optimised : ℕ → Walk → Walk
  optimised b w = run (λ x i. optimise_inst sh b (run (optimise_edit sh b) x (edits_at sh i)) i) (with_rec (entered b) w) (insts_of sh b)

  unfoldable pub prepared : ℕ → List Edit → Record → Record
  prepared b es s = run (λ u i. prepare_inst sh b (run (λ x j. effect sh (get_or es j Nothing) x) u (edits_at sh i)) i) (entered b s) (insts_of sh b)
