-- For `sheet_in` of specs/Sheet.antt: it is the sheet of the rows that the table holds; and its fields, by the table's rows of each kind. Assumes nothing.
use mathlib.Core.Path.{◌≡◌, refl, sym, ◌∙◌, ap}
use mathlib.Core.List.{List, [], map}
use mathlib.Core.Option.{Option}
use Prim.Native.Nat.{ℕ, ◌+◌, ◌<◌, ◌≤◌}
use native.Mathlib.Omega.{arith}
use lib.ListN.{length, get_or, drop, length-map, get_or-map, get_or-eq_default}
use lib.Seq.{ext_get_or}
use lib.Dec.{eqb}
use borrow.Author.Tests.{le-ltb}
use Rattle.laws.specs.Lists.{keep, from}
use Rattle.laws.proofs.Cases.{by_lt}
use Rattle.laws.proofs.Lists.{get_d_any, from_long}
use Rattle.rules.specs.Words.{slots_word}
use Rattle.rules.specs.Cells.{word, words, find}
use Rattle.rules.specs.Rows.{kind}
use Rattle.rules.specs.Sheet.{RegRow, ClassRow, GroupRow, BlockRow, ParamRow, OpRow, EditRow, field, flag_of, maybe, place_of, constraint_of, kind_of, edit_of, list_row, sheet_by, sheet_of, block_count}
use Rattle.table.specs.Rows.{first_in, count_in, kind_row}
use Rattle.table.specs.Table.{Indexed}
use Rattle.table.specs.Sheet.{rows_at, sheet_in}
use Rattle.table.proofs.Beginnings.{before, from_at}
use Rattle.table.proofs.Kindred.{begin_is, count_is, kind_row_is}

-- a list by its members
module _ {A : Type 0} (f : ℕ → A) (n : ℕ) where
  pub members_long : length (map f (from 0 n)) ≡ n
  members_long = length-map (from 0 n) f ∙ from_long 0 n

  pub members_at : (i : ℕ) (d : A) → i < n → get_or (map f (from 0 n)) i d ≡ f i
  members_at i d h =
      get_d_any (map f (from 0 n)) i d (f 0) (rw members_long h) ∙ get_or-map f (from 0 n) i 0 ∙ ap f (from_at 0 n i h ∙ omega arith)

-- ---- the rows of a kind

module _ (t : List ℕ) (k : ℕ) where
  pub rows_long : length (rows_at t k) ≡ count_in t k
  unfolding rows_at
  rows_long = members_long (kind_row t k) (count_in t k)

  pub rows_at_lem : (n : ℕ) → get_or (rows_at t k) n [] ≡ kind_row t k n
  unfolding rows_at kind_row
  rows_at_lem n =
      by_lt n (count_in t k) (λ h. members_at (kind_row t k) (count_in t k) n [] h)
      (λ h. get_or-eq_default (rows_at t k) [] {n = n} (omega (arith, rows_long)) ∙ rw (le-ltb n (count_in t k) h))

  -- what is read off them: how much there is, and the n-th; past the end what is read off an empty row, where that is the default
  module _ {A : Type 0} (f : List ℕ → A) where
    pub read_long : length (map f (rows_at t k)) ≡ count_in t k
    read_long = length-map (rows_at t k) f ∙ rows_long

    pub read_at : (n : ℕ) → get_or (map f (rows_at t k)) n (f []) ≡ f (kind_row t k n)
    read_at n = get_or-map f (rows_at t k) n [] ∙ ap f (rows_at_lem n)

    pub read_within : (n : ℕ) (d : A) → n < count_in t k → get_or (map f (rows_at t k)) n d ≡ f (kind_row t k n)
    read_within n d h = get_d_any (map f (rows_at t k)) n d (f []) (rw read_long h) ∙ read_at n

    pub read_past : (n : ℕ) (d : A) → count_in t k ≤ n → get_or (map f (rows_at t k)) n d ≡ d
    read_past n d h = get_or-eq_default (map f (rows_at t k)) d {n = n} (rw read_long h)

    -- and of a part g of it
    pub read_part : {B : Type 0} (g : A → B) (n : ℕ) (d : A) → g (f []) ≡ g d → g (get_or (map f (rows_at t k)) n d) ≡ g (f (kind_row t k n))
    unfolding kind_row
    read_part g n d e =
        by_lt n (count_in t k) (λ h. ap g (read_within n d h)) (λ h. ap g (read_past n d h) ∙ rw (le-ltb n (count_in t k) h) (sym e))

-- ---- the sheet of the rows

module _ {rs : List (List ℕ)} {t : List ℕ} (x : Indexed rs t) where
  pub rows_are : (k : ℕ) → k < 13 → rows_at t k ≡ keep (λ r. eqb (kind r) (slots_word + k)) rs
  rows_are k h =
      ext_get_or [] (rows_at t k) (keep (λ r. eqb (kind r) (slots_word + k)) rs) (rows_long t k ∙ count_is x k h) (λ n l. rows_at_lem t k n ∙ kind_row_is x k h n)

  -- THE SHEET
  pub sheet_in_is : sheet_in t ≡ sheet_of rs
  unfolding sheet_in sheet_of sheet_by word words find before
  sheet_in_is =
      rw (
        begin_is x 6 (omega arith),
        rows_are 0 (omega arith),
        rows_are 1 (omega arith),
        rows_are 2 (omega arith),
        rows_are 3 (omega arith),
        rows_are 4 (omega arith),
        rows_are 5 (omega arith),
        rows_are 6 (omega arith),
        rows_are 7 (omega arith),
        rows_are 8 (omega arith),
        rows_are 9 (omega arith),
        rows_are 10 (omega arith),
        rows_are 11 (omega arith),
        rows_are 12 (omega arith),
      )

-- ---- the sheet's fields, read off the rows of each kind

abbrev pub reg_of : List ℕ → RegRow
reg_of r = record { memory = flag_of (field 2 r); units = drop 3 r }

abbrev pub class_of : List ℕ → ClassRow
class_of r = record { slots = flag_of (field 2 r); members = drop 3 r }

abbrev pub group_of : List ℕ → GroupRow
group_of r = record { class = field 2 r; regs = drop 3 r }

abbrev pub value_of : List ℕ → Option ℕ
value_of r = maybe (field 2 r)

abbrev pub block_of : List ℕ → BlockRow
block_of r = record { instructions = field 2 r; idom = maybe (field 3 r); entry = flag_of (field 4 r) }

abbrev pub param_row_of : List ℕ → ParamRow
param_row_of r = record { at = field 1 r; value = field 2 r; place = place_of (field 3 r) }

abbrev pub op_row_of : List ℕ → OpRow
op_row_of r = record { at = field 1 r; kind = kind_of (field 2 r) (field 3 r); constraint = constraint_of (field 4 r); place = place_of (field 5 r) }

abbrev pub edit_row_of : List ℕ → EditRow
edit_row_of r = record { at = field 1 r; edit = edit_of (field 2 r) (field 3 r) (field 4 r) (field 5 r) }

-- a list that is read off the rows of kind k
pub record ReadOff {A : Type 0} (t : List ℕ) (k : ℕ) (f : List ℕ → A) (l : List A) : Type 0 where
  pub is : l ≡ map f (rows_at t k)

module _ (t : List ℕ) where
  pub above_is : (sheet_in t).above ≡ first_in t 6
  unfolding sheet_in sheet_by
  above_is = refl

  pub slots_are : (sheet_in t).slots ≡ field 1 (kind_row t 0 0)
  unfolding sheet_in sheet_by word words find
  slots_are = read_at t 0 (field 1) 0

  pub regs_are : ReadOff t 1 reg_of (sheet_in t).regs
  unfolding sheet_in sheet_by word words find
  regs_are = record { is = refl }

  pub classes_are : ReadOff t 2 class_of (sheet_in t).classes
  unfolding sheet_in sheet_by word words find
  classes_are = record { is = refl }

  pub groups_are : ReadOff t 3 group_of (sheet_in t).groups
  unfolding sheet_in sheet_by word words find
  groups_are = record { is = refl }

  pub values_are : ReadOff t 4 value_of (sheet_in t).values
  unfolding sheet_in sheet_by word words find
  values_are = record { is = refl }

  pub vgroups_are : ReadOff t 5 (drop 2) (sheet_in t).vgroups
  unfolding sheet_in sheet_by word words find
  vgroups_are = record { is = refl }

  pub blocks_are : ReadOff t 6 block_of (sheet_in t).blocks
  unfolding sheet_in sheet_by word words find
  blocks_are = record { is = refl }

  pub succs_are : ReadOff t 7 list_row (sheet_in t).succs
  unfolding sheet_in sheet_by word words find
  succs_are = record { is = refl }

  pub preds_are : ReadOff t 8 list_row (sheet_in t).preds
  unfolding sheet_in sheet_by word words find
  preds_are = record { is = refl }

  pub params_are : ReadOff t 9 param_row_of (sheet_in t).params
  unfolding sheet_in sheet_by word words find
  params_are = record { is = refl }

  pub ops_are : ReadOff t 10 op_row_of (sheet_in t).ops
  unfolding sheet_in sheet_by word words find
  ops_are = record { is = refl }

  pub clobs_are : ReadOff t 11 list_row (sheet_in t).clobs
  unfolding sheet_in sheet_by word words find
  clobs_are = record { is = refl }

  pub edits_are : ReadOff t 12 edit_row_of (sheet_in t).edits
  unfolding sheet_in sheet_by word words find
  edits_are = record { is = refl }

-- how long it is, its n-th member, and a part of that
module _ {A : Type 0} {t : List ℕ} {k : ℕ} {f : List ℕ → A} {l : List A} (x : ReadOff t k f l) where
  pub long_of : length l ≡ count_in t k
  long_of = ap length x.is ∙ read_long t k f

  pub at_of : (n : ℕ) (d : A) → f [] ≡ d → get_or l n d ≡ f (kind_row t k n)
  at_of n d z = ap (λ (y : List A). get_or y n d) x.is ∙ read_part t k f (λ y. y) n d z

  pub within_of : (n : ℕ) (d : A) → n < count_in t k → get_or l n d ≡ f (kind_row t k n)
  within_of n d h = ap (λ (y : List A). get_or y n d) x.is ∙ read_within t k f n d h

  pub past_of : (n : ℕ) (d : A) → count_in t k ≤ n → get_or l n d ≡ d
  past_of n d h = ap (λ (y : List A). get_or y n d) x.is ∙ read_past t k f n d h

  pub part_of : {B : Type 0} (g : A → B) (n : ℕ) (d : A) → g (f []) ≡ g d → g (get_or l n d) ≡ g (f (kind_row t k n))
  part_of g n d z = ap (λ (y : List A). g (get_or y n d)) x.is ∙ read_part t k f g n d z

pub blocks_counted : (t : List ℕ) {n : ℕ} → n ≡ count_in t 6 → n ≡ block_count (sheet_in t)
blocks_counted t e = e ∙ sym (long_of (blocks_are t))
