-- Edits and places in cells as rows of a sheet have them.
use Rattle.std.specs.Prelude.{◌≡◌, List, [], ◌∷◌, ℕ, ◌+◌, ◌*◌, ◌<◌, ◌≤◌, length, get_or}
use Rattle.entity.specs.declared.forms.Edit.{Edit, TheVariants.Move, TheVariants.Remat, TheVariants.Espill, TheVariants.Ereload, TheVariants.Misplaced, TheVariants.Nothing}
use Rattle.entity.specs.declared.forms.Place.{Place}
use Rattle.rules.specs.Cells.{class_mark, number_limit, reg_mark}
use Rattle.rules.specs.Answer.{edit_cells}
use Rattle.table.specs.Layout.{edit_width}
use Rattle.table.specs.Sheet.{sheet_in}
use Rattle.table.specs.Edits.{edit_in, edits_in, places_in, SmallEdit}

-- the four cells of edit n
unfoldable pub four_in : List ℕ → ℕ → List ℕ
four_in cells n = get_or cells (n * edit_width) 0 ∷ get_or cells (n * edit_width + 1) 0 ∷ get_or cells (n * edit_width + 2) 0 ∷ get_or cells (n * edit_width + 3) 0 ∷ []

-- "at most five digits": the value too
abbrev pub SmallValue : Edit → Type 0
SmallValue (Move to p v) = v.0 < number_limit
SmallValue (Remat to v) = v.0 < number_limit
SmallValue (Espill s r) = Unit {0}
SmallValue (Ereload r s) = Unit {0}
SmallValue (Misplaced to p) = Unit {0}
SmallValue Nothing = Unit {0}

-- the cells of edit n are those that an edit row has for it, its numbers being small
pub record EditCells (edits : List ℕ) (n : ℕ) : Type 0 where
  pub kept : four_in edits n ≡ edit_cells (edit_in edits n)
  pub small : SmallEdit (edit_in edits n)
  pub value : SmallValue (edit_in edits n)

-- r0 to r99999 or s0 to s99999
abbrev pub PlaceCell : ℕ → Type 0
PlaceCell c = (reg_mark ≤ c) × (c < class_mark)

-- these edits and these operand places stand in the cells, one a row of the table's sheet
pub record InCells (t edits places : List ℕ) (es : List Edit) (ps : List Place) : Type 0 where
  pub cells_of_edits : (j : ℕ) → j < length (sheet_in t).edits → EditCells edits j
  pub is_edits : es ≡ edits_in edits (length (sheet_in t).edits)
  pub place_cells : (j : ℕ) → j < length (sheet_in t).ops → PlaceCell (get_or places j 0)
  pub is_places : ps ≡ places_in places (length (sheet_in t).ops)
