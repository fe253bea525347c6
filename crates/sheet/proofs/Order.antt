-- For src/grammar.rt: how a row follows the one before it, by the code's tests, and the sheet's test a row at a time. Assumes nothing.
use mathlib.Core.Path.{◌≡◌, refl, sym, ◌∙◌, ap}
use mathlib.Core.Bool.{Bool, true, false, ◌&&◌, ◌||◌, and-false}
use mathlib.Core.List.{List, [], ◌∷◌}
use mathlib.Core.Option.{Option, none, some, Option-elim}
use Prim.Native.Nat.{ℕ, suc, ◌+◌, ◌-◌, ◌<◌, ◌≤◌}
use native.Mathlib.Omega.{arith}
use lib.Dec.{eqb, ltb}
use borrow.Author.Tests.{eq-eqb, ne_eqb}
use Rattle.laws.specs.Lists.{all}
use Rattle.rules.specs.Words.{slots_word}
use Rattle.rules.specs.Rows.{Kind, kinds, kind_from, kind, first, begins, goes_on, row_ok, pair_ok, pairs_ok, sheet_ok, reading}
use Rattle.sheet.specs.Grammar.{begins_kind, goes_on_kind, follows}
use Rattle.table.specs.Table.{rows_from, rows_in}
use Rattle.table.specs.Rows.{row_in}

-- ---- a pair of rows

pub follows_is : (p x k n : ℕ) → (ltb p k && begins_kind k n || eqb p k && goes_on_kind k x n) ≡ follows p x k n
unfolding follows begins_kind goes_on_kind Option-elim
follows_is p x k n = go (kind_from kinds k)
  where
    go : (o : Option Kind)
        → (ltb p k && Option-elim o false (λ d. begins d.order n) || eqb p k && Option-elim o false (λ d. goes_on d.order x n))
        ≡ Option-elim o false (λ d. (ltb p k && begins d.order n) || (eqb p k && goes_on d.order x n))
    go none = rw (and-false, and-false)
    go (some d) = refl

-- ---- the sheet, a row at a time: what is left to test where the row before is of kind p and has the first field x

unfoldable pub pairs_by : ℕ → ℕ → List (List ℕ) → Bool
pairs_by p x [] = true
pairs_by p x (r ∷ rs) = follows p x (kind r) (first r) && pairs_by (kind r) (first r) rs

pairs_by_lem : (p : List ℕ) (rs : List (List ℕ)) → pairs_ok p rs ≡ pairs_by (kind p) (first p) rs
unfolding pairs_ok pairs_by pair_ok follows
pairs_by_lem p [] = refl
pairs_by_lem p (r ∷ rs) = ap (λ (b : Bool). pair_ok p r && b) (pairs_by_lem r rs)

unfoldable pub left : ℕ → ℕ → List (List ℕ) → Bool
left p x rs = all row_ok rs && pairs_by p x rs

follows_first : (k n : ℕ) → k ≡ slots_word → follows 0 0 k n ≡ true
unfolding follows reading
follows_first k n e = rw e

sheet_first : (r : List ℕ) (rs : List (List ℕ)) → kind r ≡ slots_word → sheet_ok (r ∷ rs) ≡ left 0 0 (r ∷ rs)
unfolding sheet_ok left pairs_by reading
sheet_first r rs e =
    ap (λ (b : Bool). (b && all row_ok (r ∷ rs)) && pairs_ok r rs) (eq-eqb (kind r) slots_word e)
    ∙ ap (λ (b : Bool). all row_ok (r ∷ rs) && b) (pairs_by_lem r rs ∙ sym (ap (λ (b : Bool). b && pairs_by (kind r) (first r) rs) (follows_first (kind r) (first r) e)))

sheet_other : (r : List ℕ) (rs : List (List ℕ)) → (kind r ≡ slots_word → ⊥) → false ≡ sheet_ok (r ∷ rs)
unfolding sheet_ok reading
sheet_other r rs e = rw (ne_eqb (kind r) slots_word e)

left_row : (p x : ℕ) (r : List ℕ) (rs : List (List ℕ)) → row_ok r ≡ false → left p x (r ∷ rs) ≡ false
unfolding left
left_row p x r rs e = rw e

left_pair : (p x : ℕ) (r : List ℕ) (rs : List (List ℕ)) → follows p x (kind r) (first r) ≡ false → left p x (r ∷ rs) ≡ false
unfolding left pairs_by
left_pair p x r rs e = rw (e, and-false)

left_more : (p x : ℕ) (r : List ℕ) (rs : List (List ℕ)) → row_ok r ≡ true → follows p x (kind r) (first r) ≡ true → left p x (r ∷ rs) ≡ left (kind r) (first r) rs
unfolding left pairs_by
left_more p x r rs e g = rw (e, g)

-- ---- the same in a table

rows_step : (t : List ℕ) (i n : ℕ) → i < n → rows_from t i (n - i) ≡ row_in t i ∷ rows_from t (i + 1) (n - (i + 1))
unfolding rows_from
rows_step t i n h = let e : n - i ≡ suc (n - (i + 1)) = omega arith in rw e

module _ (t : List ℕ) (n : ℕ) where
  pub no_rows : n ≡ 0 → false ≡ sheet_ok (rows_in t n)
  unfolding rows_in rows_from sheet_ok
  no_rows e = rw e

  all_rows : 0 < n → rows_in t n ≡ row_in t 0 ∷ rows_from t 1 (n - 1)
  unfolding rows_in
  all_rows h = ap (rows_from t 0) (omega arith) ∙ rows_step t 0 n h

  pub not_slots : 0 < n → (kind (row_in t 0) ≡ slots_word → ⊥) → false ≡ sheet_ok (rows_in t n)
  not_slots h d = rw (all_rows h) (sheet_other (row_in t 0) (rows_from t 1 (n - 1)) d)

  pub from_slots : 0 < n → kind (row_in t 0) ≡ slots_word → sheet_ok (rows_in t n) ≡ left 0 0 (rows_from t 0 (n - 0))
  from_slots h e = rw (all_rows h, rows_step t 0 n h) (sheet_first (row_in t 0) (rows_from t 1 (n - 1)) e)

  module _ (i p x : ℕ) (h : i < n) where
    pub row_not : row_ok (row_in t i) ≡ false → left p x (rows_from t i (n - i)) ≡ false
    row_not e = rw (rows_step t i n h) (left_row p x (row_in t i) _ e)

    pub pair_not : follows p x (kind (row_in t i)) (first (row_in t i)) ≡ false → left p x (rows_from t i (n - i)) ≡ false
    pair_not e = rw (rows_step t i n h) (left_pair p x (row_in t i) _ e)

    pub row_more : row_ok (row_in t i) ≡ true → follows p x (kind (row_in t i)) (first (row_in t i)) ≡ true
        → left p x (rows_from t i (n - i)) ≡ left (kind (row_in t i)) (first (row_in t i)) (rows_from t (i + 1) (n - (i + 1)))
    row_more e g = rw (rows_step t i n h) (left_more p x (row_in t i) _ e g)

  pub all_left : (i p x : ℕ) → n ≤ i → left p x (rows_from t i (n - i)) ≡ true
  unfolding rows_from left pairs_by
  all_left i p x h = let e : n - i ≡ 0 = omega arith in rw e
