-- The definitions answer the sheets of specs/Sheets.antt.
use Prim.Native.Nat.{ℕ, ◌≤◌, ◌<◌}
use mathlib.Core.Path.{◌≡◌, refl}
use mathlib.Core.Bool.{cond}
use mathlib.Core.List.{List, flat_map}
use mathlib.Core.Option.{none, some, bind}
use lib.ListN.{length}
use Rattle.laws.specs.Lists.{from}
use borrow.Author.Tests.{le-leb, lt-leb}
use Rattle.rules.proofs.Digits.{digits_of_lem}
use Rattle.rules.specs.Words.{Named}
use Rattle.rules.specs.Rows.{cells_of, sheet_ok, rows_of, reading}
use Rattle.rules.specs.Sheets.{sheet, is_some, RowsRead}

at_most : (s : List ℕ) → length s ≤ 65536 → rows_of s ≡ bind (cells_of s) (λ rows. cond (sheet_ok rows) (some rows) none)
unfolding rows_of
at_most s h = rw le-leb

over : (s : List ℕ) → 65536 < length s → rows_of s ≡ none
unfolding rows_of
over s h = rw lt-leb

pub rows_read : RowsRead
unfolding reading sheet is_some flat_map
rows_read = record { answers = refl; worked = (refl, refl); cells = (refl, refl); digits = digits_of_lem; at_most = at_most; over = over }

-- each word by its place, each mark and each word by its name
pub named : Named
unfolding reading from
named = record { by_place = refl; by_word = refl; by_mark = refl }
