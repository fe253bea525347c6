-- The table: from `kind_index` on where each kind's rows begin; from `cells_at` on the cells, one after the other; from its end downward where each row
-- starts, and where the last one ends. And the rows that a table holds.
use Rattle.std.specs.Prelude.{ℕ, zero, suc, ◌+◌, ◌<◌, ◌≤◌, ◌≡◌, List, [], ◌∷◌, ◌++◌, map, ltb, length, get_or, take, drop}
use Rattle.laws.specs.Lists.{keep, from}
use Rattle.rules.specs.Words.{slots_word}
use Rattle.rules.specs.Rows.{kind}
use Rattle.table.specs.Layout.{kind_index, cells_at, row_limit, cell_limit}
use Rattle.table.specs.Rows.{start_in, row_in}

unfoldable pub flatten : List (List ℕ) → List ℕ
flatten [] = []
flatten (r ∷ rs) = r ++ flatten rs

-- where each row starts, the first at a, and where the last one ends
unfoldable pub offsets : ℕ → List (List ℕ) → List ℕ
offsets a [] = a ∷ []
offsets a (r ∷ rs) = a ∷ offsets (a + length r) rs

-- how many rows there are of the kinds before each kind, and of all kinds: kind k's rows are those from the k-th of these on, and up to the next
unfoldable pub kinds_begin : List (List ℕ) → List ℕ
kinds_begin rs = map (λ k. length (keep (λ r. ltb (kind r) (slots_word + k)) rs)) (from 0 14)

-- the cells and the starts of these rows stand in the table, and do not meet
pub record Holds (rs : List (List ℕ)) (t : List ℕ) : Type 0 where
  pub cells_begin : take (length (flatten rs)) (drop cells_at t) ≡ flatten rs
  pub starts_begin : (i : ℕ) → i ≤ length rs → start_in t i ≡ get_or (offsets cells_at rs) i 0
  pub apart : cells_at + length (flatten rs) + length rs < length t
  pub few_cells : length (flatten rs) ≤ cell_limit
  pub few_rows : length rs ≤ row_limit

-- the rows' kinds never fall
unfoldable pub Rising : List (List ℕ) → Type 0
Rising rs = (i : ℕ) → i + 1 < length rs → kind (get_or rs i []) ≤ kind (get_or rs (i + 1) [])

-- and their kinds' beginnings too
pub record Indexed (rs : List (List ℕ)) (t : List ℕ) : Type 0 where
  pub held : Holds rs t
  pub kinds_begun : take 14 (drop kind_index t) ≡ kinds_begin rs
  pub rising : Rising rs

-- rows i, i + 1, .. of a table, m of them; and its first n rows
unfoldable pub rows_from : List ℕ → ℕ → ℕ → List (List ℕ)
rows_from t i zero = []
rows_from t i (suc m) = row_in t i ∷ rows_from t (i + 1) m

unfoldable pub rows_in : List ℕ → ℕ → List (List ℕ)
rows_in t n = rows_from t 0 n
