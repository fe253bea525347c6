-- The sheet that a table holds.
use Rattle.std.specs.Prelude.{List, map, ℕ, ◌-◌}
use Rattle.laws.specs.Lists.{from}
use Rattle.rules.specs.Cells.{word}
use Rattle.rules.specs.Sheet.{Sheet, sheet_by}
use Rattle.table.specs.Rows.{first_in, count_in, kind_row}

-- the rows of kind k, in order
unfoldable pub rows_at : List ℕ → ℕ → List (List ℕ)
rows_at t k = map (kind_row t k) (from 0 (count_in t k))

-- what they say; kind k's word is the k-th of the words of kinds
unfoldable pub sheet_in : List ℕ → Sheet
sheet_in t = sheet_by (first_in t 6) (λ kind. rows_at t (word kind - word "slots"))
