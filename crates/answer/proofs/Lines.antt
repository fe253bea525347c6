-- For the rows of src/rows.rt: lines of fields, and rows one after the other. Assumes nothing.
use mathlib.Core.Path.{◌≡◌, refl, sym, ap, ◌∙◌}
use mathlib.Core.List.{List, [], ◌∷◌, ◌++◌, map, flat_map, append_assoc, append-nil}
use Prim.Native.Char.{code}
use Prim.Native.Nat.{ℕ, zero, suc, ◌+◌, ◌-◌, ◌*◌, ◌≤◌}
use native.Mathlib.Nat.{add-zero}
use native.Mathlib.Numerals.{add-one}
use native.Mathlib.Omega.{arith}
use lib.ListN.{get_or}
use borrow.Author.Tests.{eq-eqb, ne_eqb}
use Rattle.laws.specs.Lists.{from}
use Rattle.laws.proofs.Lists.{flat_map_lem}
use Rattle.entity.specs.Limits.{inst_limit}
use Rattle.rules.specs.Text.{bytes}
use Rattle.rules.specs.Cells.{digits_of}
use Rattle.rules.specs.Rows.{line_of}
use Rattle.rules.specs.Sheet.{field}
use Rattle.table.specs.Layout.{op_index, edit_width}
use Rattle.table.specs.Rows.{kind_row}
use Rattle.table.specs.Sheet.{sheet_in}
use Rattle.table.specs.Index.{range_in}
use Rattle.table.specs.View.{edit_row}
use Rattle.table.specs.declared.index.Range.{Range}
use Rattle.answer.specs.Text.{Laid, cell_text}
use Rattle.answer.specs.declared.text.Writer.{Writer}
use Rattle.answer.specs.Rows.{fold_line, fold_at, edit_at, count_line}
use Rattle.table.specs.Written.{four_in}
use Rattle.answer.proofs.Laying.{laid_none, laid_then, laid_as}

-- ---- one row more

rows_from_lem : (f : ℕ → List ℕ) (a n : ℕ) → flat_map f (from a n) ++ f (a + n) ≡ flat_map f (from a (suc n))
unfolding flat_map from
rows_from_lem f a zero = rw (add-zero a) (sym (append-nil (f a)))
rows_from_lem f a (suc n) =
    let e : a + suc n ≡ suc a + n = omega arith in
    rw (e, append_assoc) (ap (λ (l : List ℕ). f a ++ l) (rows_from_lem f (suc a) n))

pub rows_more : (f : ℕ → List ℕ) (n : ℕ) → flat_map f (from 0 n) ++ f n ≡ flat_map f (from 0 (n + 1))
rows_more f n =
    let e : 0 + n ≡ n = omega arith in
    ap (λ (i : ℕ). flat_map f (from 0 n) ++ f i) (sym e) ∙ rows_from_lem f 0 n ∙ ap (λ (i : ℕ). flat_map f (from 0 i)) (sym (add-one n))

pub laid_no_row : (f : ℕ → List ℕ) (w : Writer) → Laid (flat_map f (from 0 0)) w w
unfolding flat_map from
laid_no_row f w = laid_none w

-- rows 0 to n, the last one laid now
pub laid_row : (f : ℕ → List ℕ) (n : ℕ) {o m m' : Writer} → Laid (flat_map f (from 0 n)) o m → Laid (f n) m m' → Laid (flat_map f (from 0 (n + 1))) o m'
laid_row f n p q = laid_as (rows_more f n) (laid_then p q)

pub laid_rows : (f : ℕ → List ℕ) (n m k : ℕ) {o w : Writer} → n ≤ m → m ≤ n → m ≡ k → Laid (flat_map f (from 0 n)) o w → Laid (flat_map f (from 0 k)) o w
laid_rows f n m k h u e p = let z : n ≡ k = omega arith in laid_as (ap (λ (i : ℕ). flat_map f (from 0 i)) z) p

-- ---- fields

-- a comma before each, and then e
abbrev joined : List (List ℕ) → List ℕ → List ℕ
joined [] e = e
joined (g ∷ gs) e = (44 ∷ g) ++ joined gs e

joined_is : (gs : List (List ℕ)) (e : List ℕ) → joined gs e ≡ flat_map (λ g. code "," ∷ g) gs ++ e
unfolding flat_map
joined_is [] e = refl
joined_is (g ∷ gs) e = ap (λ (l : List ℕ). (44 ∷ g) ++ l) (joined_is gs e) ∙ sym (append_assoc (44 ∷ g) (flat_map (λ g. code "," ∷ g) gs) e)

-- ---- folds

pub fold_line_lem : (i o p : ℕ) → bytes "fold" ++ ((44 ∷ digits_of i) ++ ((44 ∷ digits_of o) ++ ((44 ∷ cell_text p) ++ bytes "\r\n"))) ≡ fold_line i o p
unfolding fold_line line_of bytes flat_map
fold_line_lem i o p = ap (λ (l : List ℕ). bytes "fold" ++ l) (joined_is (digits_of i ∷ digits_of o ∷ cell_text p ∷ []) (bytes "\r\n"))

module _ (t places : List ℕ) (n : ℕ) (row : List ℕ) (c x : ℕ) (e : row ≡ kind_row t 10 n) (p : c ≡ get_or places n 0) (q : x ≡ get_or row 5 0) where
  now_is : x ≡ field 5 (kind_row t 10 n)
  now_is = q ∙ ap (field 5) e

  pub fold_none : c ≡ x → [] ≡ fold_at t places n
  unfolding fold_at
  fold_none z = rw (eq-eqb (get_or places n 0) (field 5 (kind_row t 10 n)) (sym p ∙ z ∙ now_is))

  pub fold_some : (i o : ℕ) (r : Range) → (c ≡ x → ⊥) → i ≡ get_or row 1 0 → r ≡ range_in t op_index inst_limit i → o ≡ n - r.from → fold_line i o c ≡ fold_at t places n
  unfolding fold_at
  fold_some i o r d a b l =
      let ei : i ≡ field 1 (kind_row t 10 n) = a ∙ ap (field 1) e in
      let eo : o ≡ n - (range_in t op_index inst_limit (field 1 (kind_row t 10 n))).from = l ∙ ap (λ (r : Range). n - r.from) (b ∙ ap (range_in t op_index inst_limit) ei) in
      rw (ne_eqb (get_or places n 0) (field 5 (kind_row t 10 n)) (λ z. d (p ∙ z ∙ sym now_is))) (rw (ei, eo, p))

-- ---- edits

pub edit_line : (t edits : List ℕ) (n i k to s v : ℕ) → i ≡ (edit_row (sheet_in t) n).at → k ≡ get_or edits (n * edit_width) 0 → to ≡ get_or edits (n * edit_width + 1) 0 → s ≡ get_or edits (n * edit_width + 2) 0 → v ≡ get_or edits (n * edit_width + 3) 0
    → bytes "edit" ++ ((44 ∷ cell_text i) ++ ((44 ∷ cell_text k) ++ ((44 ∷ cell_text to) ++ ((44 ∷ cell_text s) ++ ((44 ∷ cell_text v) ++ bytes "\r\n"))))) ≡ edit_at t edits n
unfolding edit_at four_in line_of bytes flat_map
edit_line t edits n i k to s v a b c d e =
    rw (← a, ← b, ← c, ← d, ← e) (ap (λ (l : List ℕ). bytes "edit" ++ l) (joined_is (map cell_text (i ∷ k ∷ to ∷ s ∷ v ∷ [])) (bytes "\r\n")))

-- ---- counts

abbrev pub count_field : List ℕ → ℕ → List ℕ
count_field counts k = 44 ∷ digits_of (get_or counts k 0)

pub count_line_lem : (counts : List ℕ) (k : ℕ) → k ≤ 9 → 9 ≤ k → bytes "count" ++ (flat_map (count_field counts) (from 0 k) ++ bytes "\r\n") ≡ count_line counts
unfolding count_line line_of bytes flat_map
count_line_lem counts k h l =
    let e : k ≡ 9 = omega arith in
    rw e (ap (λ (l : List ℕ). bytes "count" ++ (l ++ bytes "\r\n")) (sym (flat_map_lem (λ g. code "," ∷ g) (λ k. digits_of (get_or counts k 0)) (from 0 9))))

-- ---- a refusal

pub refused_line : (n : ℕ) → bytes "refused," ++ (digits_of n ++ bytes "\r\n") ≡ line_of (bytes "refused" ∷ digits_of n ∷ [])
unfolding line_of bytes flat_map
refused_line n = ap (λ (l : List ℕ). bytes "refused" ++ l) (joined_is (digits_of n ∷ []) (bytes "\r\n"))
