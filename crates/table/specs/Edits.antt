-- Edits and operand places in cells, as the optimizer and the sweep alter them: four cells an edit, kind, to, from and value, and one a place.
use Rattle.std.specs.Prelude.{List, map, ℕ, ◌+◌, ◌*◌, ◌<◌, get_or, set}
use Rattle.laws.specs.Lists.{from}
use Rattle.entity.specs.declared.forms.Place.{Place, TheVariants.Reg, TheVariants.Slot}
use Rattle.entity.specs.declared.forms.Edit.{Edit, TheVariants.Move, TheVariants.Remat, TheVariants.Espill, TheVariants.Ereload, TheVariants.Misplaced, TheVariants.Nothing}
use Rattle.rules.specs.Cells.{number_limit}
use Rattle.rules.specs.Sheet.{place_of, edit_of}
use Rattle.rules.specs.Answer.{edit_cells}
use Rattle.table.specs.Layout.{edit_width}
use Rattle.table.specs.Rows.{kind_row}

-- edit j; and the first n
unfoldable pub edit_in : List ℕ → ℕ → Edit
edit_in cells j = edit_of (get_or cells (j * edit_width) 0) (get_or cells (j * edit_width + 1) 0) (get_or cells (j * edit_width + 2) 0) (get_or cells (j * edit_width + 3) 0)

unfoldable pub edits_in : List ℕ → ℕ → List Edit
edits_in cells n = map (edit_in cells) (from 0 n)

-- edit j replaced by e
unfoldable pub with_edit : List ℕ → ℕ → Edit → List ℕ
with_edit cells j e =
    let cs = edit_cells e in
    set (set (set (set cells (j * edit_width) (get_or cs 0 0)) (j * edit_width + 1) (get_or cs 1 0)) (j * edit_width + 2) (get_or cs 2 0)) (j * edit_width + 3) (get_or cs 3 0)

-- place j; and the first n
unfoldable pub place_in : List ℕ → ℕ → Place
place_in cells j = place_of (get_or cells j 0)

unfoldable pub places_in : List ℕ → ℕ → List Place
places_in cells n = map (place_in cells) (from 0 n)

-- the edit that row n of the sheet's edits says
unfoldable pub edit_at_row : List ℕ → ℕ → Edit
edit_at_row t n = let r = kind_row t 12 n in edit_of (get_or r 2 0) (get_or r 3 0) (get_or r 4 0) (get_or r 5 0)

-- "at most five digits": the numbers in a place and in an edit are below 100000
abbrev pub SmallPlace : Place → Type 0
SmallPlace (Reg r) = r.0 < number_limit
SmallPlace (Slot s) = s.0 < number_limit

abbrev pub SmallEdit : Edit → Type 0
SmallEdit (Move to p v) = SmallPlace to × SmallPlace p
SmallEdit (Remat to v) = SmallPlace to
SmallEdit (Espill s r) = SmallPlace (Slot s) × SmallPlace (Reg r)
SmallEdit (Ereload r s) = SmallPlace (Reg r) × SmallPlace (Slot s)
SmallEdit (Misplaced to p) = Unit {0}
SmallEdit Nothing = Unit {0}
