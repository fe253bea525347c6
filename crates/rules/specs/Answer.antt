-- Document 01, "The call", with the finer refusals of document 02, request 1: the answer for every sheet, level, sweep flag and length of the output buffer.
use Rattle.std.specs.Prelude.{Bool, true, false, cond, ℕ, ◌+◌, leb, eqb, length, get_or, drop, ℤ, pos, neg_ℤ, Some, None}
use mathlib.Core.List.{List, [], ◌∷◌, ◌++◌, map, flat_map, zip}
use Rattle.std.proofs.Math.Option.{Option, none, some, Option-elim}
use Rattle.laws.specs.Lists.{from}
use Rattle.entity.specs.Forms.{level_of, sum_of}
use Rattle.entity.specs.declared.forms.Level.{Level}
use Rattle.entity.specs.declared.forms.Refusal.{Refusal}
use Rattle.entity.specs.declared.forms.Refusal.TheVariants.{Rows, Limits, Names, NoEntry, Empty, Disagree, Edges, NotSmaller, NotReached, Operands, Edits, Call, Room}
use Rattle.rules.specs.Cells.{word, digits_of, field_of, reg_mark, slot_mark}
use Rattle.rules.specs.{Text.bytes, Rows.rows_of, Rows.line_of, Rows.row_text, Sweep.sweep}
use Rattle.rules.specs.Sheet.{Place, Reg, Slot, Edit, Move, Remat, Espill, Ereload, Misplaced, Nothing, Sheet, OpRow, sheet_of, inst_count}
use Rattle.rules.specs.Accept.{within_limits, names_hold, some_entry, filled, named_back, edges_hold, smaller_hold, is_reached, each_block, lowest_not, row_of, operands_hold, edits_hold, same_place}
use Rattle.rules.specs.Forward.{Walk, indexed, optimise, start}

-- the cell of a place
unfoldable pub place_cell : Place → ℕ
place_cell (Reg r) = reg_mark + r.0
place_cell (Slot s) = slot_mark + s.0

-- the cells of an edit after its instruction: kind, to, from, value
unfoldable pub edit_cells : Edit → List ℕ
edit_cells (Move to p v) = word "move" ∷ place_cell to ∷ place_cell p ∷ v.0 ∷ []
edit_cells (Remat to v) = word "remat" ∷ place_cell to ∷ word "-" ∷ v.0 ∷ []
edit_cells (Espill s r) = word "espill" ∷ place_cell (Slot s) ∷ place_cell (Reg r) ∷ word "-" ∷ []
edit_cells (Ereload r s) = word "ereload" ∷ place_cell (Reg r) ∷ place_cell (Slot s) ∷ word "-" ∷ []
-- refused with 6, and never written
edit_cells (Misplaced to p) = word "none" ∷ word "-" ∷ word "-" ∷ word "-" ∷ []
edit_cells Nothing = word "none" ∷ word "-" ∷ word "-" ∷ word "-" ∷ []

-- "a `fold,inst,operand,place` for each operand place altered, in order"
unfoldable pub fold_row : Walk → ℕ × ℕ × OpRow → List ℕ
fold_row w x =
    let p = get_or w.places x.1 x.2.place in
    cond (same_place p x.2.place) []
    (line_of (bytes "fold" ∷ digits_of x.2.at ∷ digits_of x.0 ∷ field_of (place_cell p) ∷ []))

-- "every edit row, final, a removed one as kind `none`"
unfoldable pub edit_text : ℕ → Edit → List ℕ
edit_text i e = row_text (word "edit" ∷ i ∷ edit_cells e)

-- "one `count` row"
unfoldable pub count_text : List ℕ → List ℕ
count_text counts = line_of (bytes "count" ∷ map digits_of counts)

unfoldable pub output : Sheet → Walk → List ℕ
output sh w =
    flat_map (λ i. flat_map (fold_row w) (indexed sh i)) (from 0 (inst_count sh))
    ++ flat_map (λ (x : ℕ × Edit). edit_text x.0 x.1) (zip (map (λ e. e.at) sh.edits) w.edits)
    ++ count_text w.counts

-- "It optimises, then sweeps if the flag is 1."
unfoldable pub cleaned : Sheet → Level → Bool → List ℕ
cleaned sh level swept =
    let w = optimise sh level (start sh) in
    output sh (elim swept [ true ↦ sweep sh w | false ↦ w ])

pub data Answer : Type 0 where
  refused : Refusal → Answer
  written : List ℕ → Answer

-- 8: "output buffer shorter than the answer"
unfoldable pub fitted : List ℕ → ℕ → Answer
fitted text capacity = elim (leb (length text) capacity) [ true ↦ written text | false ↦ refused Room ]

-- a rule of one block, over all of them, and the refusal at the row of the lowest that does not keep it
unfoldable pub block_check : Sheet → (ℕ → Bool) → (ℕ → Refusal) → Bool × Refusal
block_check sh keeps r = (each_block sh keeps, r (row_of sh (lowest_not sh keeps)))

-- "No entry comes before an empty block."
unfoldable pub block_checks : Sheet → List (Bool × Refusal)
block_checks sh =
    (some_entry sh, NoEntry)
    ∷ block_check sh (filled sh) Empty
    ∷ block_check sh (named_back sh) Disagree
    ∷ block_check sh (edges_hold sh) Edges
    ∷ block_check sh (smaller_hold sh) NotSmaller
    ∷ block_check sh (is_reached sh) NotReached
    ∷ []

-- "Checks go in the table's order, each over the whole sheet; no number is given otherwise." 4, 9, 10, 11 and 12 come "in that order, where 4 stood".
unfoldable pub checks : Sheet → List (Bool × Refusal)
checks sh = (within_limits sh, Limits) ∷ (names_hold sh, Names) ∷ (block_checks sh ++ ((operands_hold sh, Operands) ∷ (edits_hold sh, Edits) ∷ []))

-- the first check that fails
unfoldable pub first_refusal : List (Bool × Refusal) → Option Refusal
first_refusal [] = none
first_refusal (c ∷ cs) = cond c.0 (first_refusal cs) (some c.1)

unfoldable pub checked : Level → Bool → ℕ → Sheet → Answer
checked level swept capacity sh = Option-elim (first_refusal (checks sh)) (fitted (cleaned sh level swept) capacity) refused

-- 7: "level over 3 or sweep flag over 1"
unfoldable pub called : ℕ → ℕ → Option (Level × Bool)
called level flag = elim (level_of level) [ Some l ↦ cond (leb flag 1) (some (l, eqb flag 1)) none | None ↦ none ]

unfoldable pub answer : List ℕ → ℕ → ℕ → ℕ → Answer
answer sheet level flag capacity =
    Option-elim (called level flag) (refused Call) (λ c.
    Option-elim (rows_of sheet) (refused Rows) (λ rows. checked c.0 c.1 capacity (sheet_of rows)))

-- "It returns how many bytes it wrote", or "minus (100 times the row plus the number)"
unfoldable pub returned : Answer → ℤ
returned (refused r) = neg_ℤ (pos (sum_of r))
returned (written text) = pos (length text)

-- "later bytes staying", "and then writes none": the output buffer afterwards, where it held `old`
unfoldable pub buffer : Answer → List ℕ → List ℕ
buffer (refused r) old = old
buffer (written text) old = text ++ drop (length text) old

-- "A small program does so from standard input, level 1 with sweep, into 65,536 bytes, or writes the row `refused,`" and "that sum".
unfoldable pub printed : Answer → List ℕ
printed (refused r) = line_of (bytes "refused" ∷ digits_of (sum_of r) ∷ [])
printed (written text) = text

abbrev pub program_room : ℕ
program_room = 65536

unfoldable pub program : List ℕ → List ℕ
program input = printed (answer input 1 1 program_room)
