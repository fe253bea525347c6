-- The successor list and the predecessor list: the cells of all `succ` rows, and of all `pred` rows, as they lie in the table.
use Rattle.std.specs.Prelude.{cond, List, ℕ, ◌+◌, ◌-◌, ◌%◌, ltb, take, drop}
use Rattle.table.specs.Rows.{start_in, first_in}
use Rattle.table.specs.declared.index.Range.{Range}
use Rattle.graph.specs.declared.Direction.{Direction, TheVariants.Successors, TheVariants.Predecessors}

-- the one of two that a direction chooses
unfoldable pub chosen : {A : Type 0} → Direction → A → A → A
chosen Successors s p = s
chosen Predecessors s p = p

-- the part of a list that a range tells
unfoldable pub part_in : Range → List ℕ → List ℕ
part_in r l = take (r.to - r.from) (drop r.from l)

-- where the rows of kind k start
unfoldable pub base_in : List ℕ → ℕ → ℕ
base_in t k = start_in t (first_in t k)

-- the cells of all rows of kind k, up to the rows of the next one
unfoldable pub stretch_in : List ℕ → ℕ → ℕ → List ℕ
stretch_in t k next = take (base_in t next - base_in t k) (drop (base_in t k) t)

-- where, in the stretch of kind k, the list of the one row stands that a range has, if any
unfoldable pub list_in : List ℕ → ℕ → Range → Range
list_in t k r =
    let row = first_in t k % 65536 + r.from % 65536 in
    cond (ltb r.from r.to) (record { from = start_in t row % 65536 + 2 - base_in t k; to = start_in t (row + 1) - base_in t k }) (record { from = 0; to = 0 })
