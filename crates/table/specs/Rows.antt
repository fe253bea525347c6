-- The rows in a table.
use Rattle.std.specs.Prelude.{cond, List, [], ℕ, ◌+◌, ◌-◌, ltb, length, get_or, take, drop}
use Rattle.table.specs.Layout.{kind_index}

-- where row i starts: these stand from the table's end downward
abbrev pub start_in : List ℕ → ℕ → ℕ
start_in t i = get_or t (length t - (i + 1)) 0

-- row i: the cells from where it starts to where the next one does
abbrev pub row_in : List ℕ → ℕ → List ℕ
row_in t i = take (start_in t (i + 1) - start_in t i) (drop (start_in t i) t)

-- the number of the first row of kind k, and how many there are
abbrev pub first_in : List ℕ → ℕ → ℕ
first_in t k = get_or t (kind_index + k) 0

abbrev pub count_in : List ℕ → ℕ → ℕ
count_in t k = get_or t (kind_index + k + 1) 0 - first_in t k

-- row n of kind k
unfoldable pub kind_row : List ℕ → ℕ → ℕ → List ℕ
kind_row t k n = cond (ltb n (count_in t k)) (row_in t (first_in t k + n)) []
