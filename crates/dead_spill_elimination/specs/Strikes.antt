-- The striking of rows: how far it has come, as the code has it in cells and marks and as the definitions say it.
use Rattle.std.specs.Prelude.{◌≡◌, cond, ℕ, ◌+◌, ◌*◌, ◌≤◌, ◌<◌, length, get_or}
use mathlib.Core.List.{List, [], map, zip}
use Rattle.laws.specs.{Fold.run, Lists.is_in}
use Rattle.bits.specs.declared.sets.NumberSet.{NumberSet}
use Rattle.entity.specs.Limits.{block_limit, inst_limit}
use Rattle.entity.specs.declared.forms.Place.{Place}
use Rattle.entity.specs.declared.forms.Edit.{Edit, TheVariants.Nothing}
use Rattle.rules.specs.{Sheet.Sheet, Sheet.block_count, Sheet.insts_of, Forward.edits_at}
use Rattle.rules.specs.Function.{edit, inst, Item, inst_of, look, In}
use Rattle.rules.specs.Sweep.{wanted_before, wanted_at, struck, strike_items, strike_blocks}
use Rattle.table.specs.{Layout.edit_index, Layout.inst_index, Layout.edit_width, Edits.edit_in, Edits.edits_in, Edits.with_edit}
use Rattle.table.specs.Index.{range_in}
use Rattle.marks.specs.Marks.{applied}
use Rattle.dead_spill_elimination.specs.Slots.{Same, LowReads, dead_in, numbers, inst_back}
use Rattle.dead_spill_elimination.specs.Worklist.{Word}

-- the counts of struck rows can be counted up
abbrev pub Few : List ℕ → Type 0
Few counts = (get_or counts 7 0 < 4294967295) × (get_or counts 8 0 < 4294967295)

-- row j of the edits with their marks is struck by what S has
pub record Struck (j : ℕ) (S : NumberSet) (edits marks counts marks' counts' : List ℕ) (S' : NumberSet) : Type 0 where
  pub kept : (let e = edit_in (applied edits marks) j in (A : List ℕ) → LowReads (edit e) → Same S A → Same S' (wanted_before (edit e) A))
  pub cells_are : j < length marks → applied edits marks' ≡ (let cells = applied edits marks in cond (dead_in S (edit_in cells j)) (with_edit cells j Nothing) cells)
  pub counts_are : Few counts → counts' ≡ (let e = edit_in (applied edits marks) j in cond (dead_in S e) (struck counts (e, Nothing)) counts)

-- a sheet with places, edits and counts; the slots wanted at the end of a block, and the edits as they are when its striking begins
pub record Work : Type 0 where
  pub sheet : Sheet
  pub places : List Place
  pub edits : List Edit
  pub counts : List ℕ
  pub after : List ℕ
  pub now : List Edit

-- the edits once what is left of the block from l on is struck, and the slots wanted before it
abbrev pub struck_from : Work → List Item → List Edit
struck_from w l = strike_items w.sheet w.places w.edits l w.after w.now

abbrev pub wanted_from : Work → List Item → List ℕ
wanted_from w l = wanted_at (map (look w.sheet w.places w.edits) l) w.after

-- the code has come to l
pub record Pos (w : Work) (l : List Item) (edits marks counts : List ℕ) (S : NumberSet) : Type 0 where
  pub rows : edits_in (applied edits marks) (length w.edits) ≡ struck_from w l
  pub counted : counts ≡ run struck w.counts (zip w.edits (struck_from w l))
  pub room : length w.edits * edit_width ≤ length edits
  pub long : length w.edits ≤ length marks
  pub wanted : Same S (wanted_from w l)

-- rows js can be struck, where the code has come to l
pub record Rows (w : Work) (js : List ℕ) (l : List Item) : Type 0 where
  pub there : (j : ℕ) → In j js → j < length w.edits
  pub fresh : (j : ℕ) → In j js → get_or (struck_from w l) j Nothing ≡ get_or w.edits j Nothing
  pub low : (j : ℕ) → In j js → LowReads (edit (get_or w.edits j Nothing))
  pub few : (k : ℕ) → get_or w.counts k 0 + length w.edits < 4294967295

-- the table and the words of the instructions are those of the sheet
pub record Linked (t touched : List ℕ) (sh : Sheet) (ps : List Place) (es : List Edit) (counts : List ℕ) : Type 0 where
  pub insts : (b : ℕ) → numbers (range_in t inst_index block_limit b) ≡ insts_of sh b
  pub rows : (i : ℕ) → numbers (range_in t edit_index inst_limit i) ≡ edits_at sh i
  pub at_inst : (i : ℕ) (A : List ℕ) (k : ℕ) → is_in k (inst_back touched i A) ≡ is_in k (wanted_before (inst (inst_of sh ps es i)) A)
  pub low_rows : (j : ℕ) → LowReads (edit (get_or es j Nothing))
  pub few : (k : ℕ) → get_or counts k 0 + length es < 4294967295
  pub many : length es ≡ length sh.edits

-- all blocks can be struck: `ends` has a word for each block, of the slots wanted at its end; nothing is marked
pub record All (t touched cells marks counts ends : List ℕ) : Type 0 where
  pub sheet : Sheet
  pub places_are : List Place
  pub edits : List Edit
  pub after : List (List ℕ)
  pub linked : Linked t touched sheet places_are edits counts
  pub rows : edits_in cells (length edits) ≡ edits
  pub room : length edits * edit_width ≤ length cells
  pub long : length edits ≤ length marks
  pub unmarked : (j : ℕ) → get_or marks j 0 ≡ 0
  pub blocks : block_count sheet ≡ length ends
  pub words : (b : ℕ) → b < length ends → Word (get_or ends b 0) (get_or after b [])

-- and are by marks', and counted in counts'
pub record Outcome {t touched cells marks counts ends : List ℕ} (h : All t touched cells marks counts ends) (marks' counts' : List ℕ) : Type 0 where
  pub struck_rows : edits_in (applied cells marks') (length h.edits) ≡ strike_blocks h.sheet h.places_are h.edits h.after
  pub counted : counts' ≡ run struck counts (zip h.edits (strike_blocks h.sheet h.places_are h.edits h.after))
