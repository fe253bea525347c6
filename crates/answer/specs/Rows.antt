-- An answer's rows as they are written off the cells of the table, the edits, the places and the counts; and what these have to be.
use Rattle.std.specs.Prelude.{◌≡◌, cond, ℕ, ◌+◌, ◌-◌, ◌*◌, ◌≤◌, eqb, length, get_or, take}
use mathlib.Core.List.{List, [], ◌∷◌, ◌++◌, map, flat_map}
use Rattle.laws.specs.Lists.{from}
use Rattle.entity.specs.Limits.{inst_limit}
use Rattle.rules.specs.Text.{bytes}
use Rattle.rules.specs.Cells.{digits_of}
use Rattle.rules.specs.Rows.{line_of}
use Rattle.rules.specs.Sheet.{field}
use Rattle.rules.specs.Forward.{Walk}
use Rattle.table.specs.Layout.{op_index}
use Rattle.table.specs.Rows.{count_in, kind_row}
use Rattle.table.specs.Sheet.{sheet_in}
use Rattle.table.specs.Index.{Ready, range_in}
use Rattle.table.specs.View.{edit_row}
use Rattle.answer.specs.Text.{cell_text}
use Rattle.table.specs.Written.{four_in, InCells}

-- ---- as they are written

-- a fold row
unfoldable pub fold_line : ℕ → ℕ → ℕ → List ℕ
fold_line inst operand place = line_of (bytes "fold" ∷ digits_of inst ∷ digits_of operand ∷ cell_text place ∷ [])

-- that of operand row n, if its place is altered; its index is its row's number less that of its instruction's first row
unfoldable pub fold_at : List ℕ → List ℕ → ℕ → List ℕ
fold_at t places n =
    let row = kind_row t 10 n in
    let c = get_or places n 0 in
    cond (eqb c (field 5 row)) [] (fold_line (field 1 row) (n - (range_in t op_index inst_limit (field 1 row)).from) c)

-- edit row n
unfoldable pub edit_at : List ℕ → List ℕ → ℕ → List ℕ
edit_at t edits n = line_of (bytes "edit" ∷ map cell_text ((edit_row (sheet_in t) n).at ∷ four_in edits n))

-- the count row
unfoldable pub count_line : List ℕ → List ℕ
count_line counts = line_of (bytes "count" ∷ map (λ k. digits_of (get_or counts k 0)) (from 0 9))

-- all of them
unfoldable pub rendered : List ℕ → List ℕ → List ℕ → List ℕ → List ℕ
rendered t edits places counts = flat_map (fold_at t places) (from 0 (count_in t 10)) ++ flat_map (edit_at t edits) (from 0 (count_in t 12)) ++ count_line counts

-- no more than this, as a fold row has 22 bytes at most, an edit row 38 and the count row 106
unfoldable pub answer_most : List ℕ → ℕ
answer_most t = count_in t 10 * 22 + count_in t 12 * 38 + 106

-- ---- what they say

-- the walk's edits, places and counts stand in these cells, and the table is ready
pub record Stands (t edits places counts : List ℕ) (w : Walk) : Type 0 where
  pub ready : Ready t
  pub in_cells : InCells t edits places w.edits w.places
  pub enough : 9 ≤ length counts
  pub is_counts : w.counts ≡ take 9 counts
