-- The sheet's edits and operand places as they are loaded into cells.
use Rattle.std.specs.Prelude.{◌≡◌, true, List, ℕ, ◌<◌, get_or}
use Rattle.entity.specs.declared.forms.Edit.{Edit}
use Rattle.rules.specs.{Accept.placed, Sheet.field}
use Rattle.table.specs.{Rows.kind_row, Edits.edit_in, Edits.edit_at_row, Edits.SmallEdit, Written.SmallValue, Written.EditCells}

-- an edit whose cells are read back as they were
pub record Storable (e : Edit) : Type 0 where
  pub is_placed : placed e ≡ true
  pub small : SmallEdit e
  pub value : SmallValue e

-- the first n of the sheet's edits stand in these cells
pub record EditsLoaded (t edits : List ℕ) (n : ℕ) : Type 0 where
  pub exact : (j : ℕ) → j < n → EditCells edits j
  pub are : (j : ℕ) → j < n → edit_in edits j ≡ edit_at_row t j

-- and the places of the first n operands in these
abbrev pub PlacesLoaded : List ℕ → List ℕ → ℕ → Type 0
PlacesLoaded t places n = (j : ℕ) → j < n → get_or places j 0 ≡ field 5 (kind_row t 10 j)
