-- For src/shapes.rt, the shapes of rules/specs/Rows.antt by the code's tests: the fields of a row of known length, and lists. Assumes nothing.
use mathlib.Core.Path.{◌≡◌, refl, sym, ◌∙◌, ap}
use mathlib.Core.Bool.{Bool, true, false, ◌&&◌, ◌||◌, and-true, and-false}
use mathlib.Core.List.{List, [], ◌∷◌}
use Prim.Native.Nat.{ℕ, suc, ◌-◌, ◌<◌}
use native.Mathlib.Omega.{arith}
use lib.ListN.{length, get_or, take, drop}
use lib.Dec.{leb}
use borrow.Author.Tests.{lt-ltb, le-ltb, lt-leb, le-leb, ne_eqb}
use Rattle.laws.specs.Lists.{all}
use Rattle.laws.proofs.Cases.{by_lt}
use Rattle.rules.specs.Cells.{number_limit}
use Rattle.rules.specs.Rows.{Field, number, flag, dash, place, constraint, only, ◌up_to◌, field_ok, Shape, end, list, list₁, ◌▸◌, fits, op_shape, edit_shape, row_ok}
use Rattle.sheet.specs.Grammar.{plain_op, fixed_op, fits_kind}
use Rattle.sheet.proofs.Lists.{part_rest}

-- ---- the code joins from the left

pub chain_2 : (a b : Bool) → (a && b) ≡ (a && (b && true))
chain_2 true b = sym (and-true b)
chain_2 false b = refl

pub chain_3 : (a b c : Bool) → (a && b && c) ≡ (a && (b && (c && true)))
chain_3 true b c = chain_2 b c
chain_3 false b c = refl

pub chain_4 : (a b c d : Bool) → (a && b && c && d) ≡ (a && (b && (c && (d && true))))
chain_4 true b c d = chain_3 b c d
chain_4 false b c d = refl

pub chain_5 : (a b c d e : Bool) → (a && b && c && d && e) ≡ (a && (b && (c && (d && (e && true)))))
chain_5 true b c d e = chain_4 b c d e
chain_5 false b c d e = refl

-- ---- as many fields as the shape has

fields : List Field → Shape
fields [] = end
fields (f ∷ fs) = f ▸ fields fs

other : (fs : List Field) (cs : List ℕ) → (length cs ≡ length fs → ⊥) → false ≡ fits (fields fs) cs
unfolding fields fits
other [] cs h = sym (ne_eqb (length cs) 0 h)
other (f ∷ fs) [] h = refl
other (f ∷ fs) (c ∷ cs) h = sym (ap (λ (b : Bool). field_ok f c && b) (sym (other fs cs (λ e. h (ap suc e)))) ∙ and-false (field_ok f c))

-- the elements of a list of known length
pub elements_1 : (cs : List ℕ) → length cs ≡ 1 → cs ≡ get_or cs 0 0 ∷ []
elements_1 [] h = absurd (omega arith)
elements_1 (u ∷ []) h = refl
elements_1 (u ∷ z ∷ zs) h = absurd (omega arith)

pub elements_2 : (cs : List ℕ) → length cs ≡ 2 → cs ≡ get_or cs 0 0 ∷ get_or cs 1 0 ∷ []
elements_2 [] h = absurd (omega arith)
elements_2 (u ∷ []) h = absurd (omega arith)
elements_2 (u ∷ v ∷ []) h = refl
elements_2 (u ∷ v ∷ z ∷ zs) h = absurd (omega arith)

pub elements_3 : (cs : List ℕ) → length cs ≡ 3 → cs ≡ get_or cs 0 0 ∷ get_or cs 1 0 ∷ get_or cs 2 0 ∷ []
elements_3 [] h = absurd (omega arith)
elements_3 (u ∷ []) h = absurd (omega arith)
elements_3 (u ∷ v ∷ []) h = absurd (omega arith)
elements_3 (u ∷ v ∷ w ∷ []) h = refl
elements_3 (u ∷ v ∷ w ∷ z ∷ zs) h = absurd (omega arith)

pub elements_4 : (cs : List ℕ) → length cs ≡ 4 → cs ≡ get_or cs 0 0 ∷ get_or cs 1 0 ∷ get_or cs 2 0 ∷ get_or cs 3 0 ∷ []
elements_4 [] h = absurd (omega arith)
elements_4 (u ∷ []) h = absurd (omega arith)
elements_4 (u ∷ v ∷ []) h = absurd (omega arith)
elements_4 (u ∷ v ∷ w ∷ []) h = absurd (omega arith)
elements_4 (u ∷ v ∷ w ∷ x ∷ []) h = refl
elements_4 (u ∷ v ∷ w ∷ x ∷ z ∷ zs) h = absurd (omega arith)

pub elements_5 : (cs : List ℕ) → length cs ≡ 5 → cs ≡ get_or cs 0 0 ∷ get_or cs 1 0 ∷ get_or cs 2 0 ∷ get_or cs 3 0 ∷ get_or cs 4 0 ∷ []
elements_5 [] h = absurd (omega arith)
elements_5 (u ∷ []) h = absurd (omega arith)
elements_5 (u ∷ v ∷ []) h = absurd (omega arith)
elements_5 (u ∷ v ∷ w ∷ []) h = absurd (omega arith)
elements_5 (u ∷ v ∷ w ∷ x ∷ []) h = absurd (omega arith)
elements_5 (u ∷ v ∷ w ∷ x ∷ y ∷ []) h = refl
elements_5 (u ∷ v ∷ w ∷ x ∷ y ∷ z ∷ zs) h = absurd (omega arith)

module _ (a : Field) (cs : List ℕ) where
  pub fits_1 : length cs ≡ 1 → field_ok a (get_or cs 0 0) ≡ fits (a ▸ end) cs
  unfolding fits
  fits_1 h = sym (and-true _) ∙ sym (ap (fits (a ▸ end)) (elements_1 cs h))

  pub not_1 : (length cs ≡ 1 → ⊥) → false ≡ fits (a ▸ end) cs
  unfolding fields
  not_1 = other (a ∷ []) cs

module _ (a b : Field) (cs : List ℕ) where
  pub fits_2 : length cs ≡ 2 → (field_ok a (get_or cs 0 0) && field_ok b (get_or cs 1 0)) ≡ fits (a ▸ b ▸ end) cs
  unfolding fits
  fits_2 h = chain_2 (field_ok a (get_or cs 0 0)) (field_ok b (get_or cs 1 0)) ∙ sym (ap (fits (a ▸ b ▸ end)) (elements_2 cs h))

  pub not_2 : (length cs ≡ 2 → ⊥) → false ≡ fits (a ▸ b ▸ end) cs
  unfolding fields
  not_2 = other (a ∷ b ∷ []) cs

module _ (a b c : Field) (cs : List ℕ) where
  pub fits_3 : length cs ≡ 3 → (field_ok a (get_or cs 0 0) && field_ok b (get_or cs 1 0) && field_ok c (get_or cs 2 0)) ≡ fits (a ▸ b ▸ c ▸ end) cs
  unfolding fits
  fits_3 h = chain_3 (field_ok a (get_or cs 0 0)) (field_ok b (get_or cs 1 0)) (field_ok c (get_or cs 2 0)) ∙ sym (ap (fits (a ▸ b ▸ c ▸ end)) (elements_3 cs h))

  pub not_3 : (length cs ≡ 3 → ⊥) → false ≡ fits (a ▸ b ▸ c ▸ end) cs
  unfolding fields
  not_3 = other (a ∷ b ∷ c ∷ []) cs

module _ (a b c d : Field) (cs : List ℕ) where
  pub fits_4 : length cs ≡ 4 → (field_ok a (get_or cs 0 0) && field_ok b (get_or cs 1 0) && field_ok c (get_or cs 2 0) && field_ok d (get_or cs 3 0)) ≡ fits (a ▸ b ▸ c ▸ d ▸ end) cs
  unfolding fits
  fits_4 h = chain_4 (field_ok a (get_or cs 0 0)) (field_ok b (get_or cs 1 0)) (field_ok c (get_or cs 2 0)) (field_ok d (get_or cs 3 0)) ∙ sym (ap (fits (a ▸ b ▸ c ▸ d ▸ end)) (elements_4 cs h))

  pub not_4 : (length cs ≡ 4 → ⊥) → false ≡ fits (a ▸ b ▸ c ▸ d ▸ end) cs
  unfolding fields
  not_4 = other (a ∷ b ∷ c ∷ d ∷ []) cs

not_5 : (a b c d e : Field) (cs : List ℕ) → (length cs ≡ 5 → ⊥) → fits (a ▸ b ▸ c ▸ d ▸ e ▸ end) cs ≡ false
unfolding fields
not_5 a b c d e cs h = sym (other (a ∷ b ∷ c ∷ d ∷ e ∷ []) cs h)

pub op_is : (cs : List ℕ) → length cs ≡ 5
    → (fits plain_op (get_or cs 0 0 ∷ get_or cs 1 0 ∷ get_or cs 2 0 ∷ get_or cs 3 0 ∷ get_or cs 4 0 ∷ []) || fits fixed_op (get_or cs 0 0 ∷ get_or cs 1 0 ∷ get_or cs 2 0 ∷ get_or cs 3 0 ∷ get_or cs 4 0 ∷ [])) ≡ fits op_shape cs
unfolding fits op_shape plain_op fixed_op
op_is cs h = sym (ap (fits op_shape) (elements_5 cs h))

pub not_op : (cs : List ℕ) → (length cs ≡ 5 → ⊥) → false ≡ fits op_shape cs
unfolding fits op_shape
not_op cs h = rw (not_5 number ("def" up_to "earlyg") number constraint place cs h, not_5 number (only "fixed") dash constraint place cs h)

pub edit_is : (cs : List ℕ) → length cs ≡ 5 → fits edit_shape (get_or cs 0 0 ∷ get_or cs 1 0 ∷ get_or cs 2 0 ∷ get_or cs 3 0 ∷ get_or cs 4 0 ∷ []) ≡ fits edit_shape cs
edit_is cs h = sym (ap (fits edit_shape) (elements_5 cs h))

pub not_edit : (cs : List ℕ) → (length cs ≡ 5 → ⊥) → false ≡ fits edit_shape cs
unfolding fits edit_shape
not_edit cs h =
    rw (
      not_5 number (only "move") place place number cs h,
      not_5 number (only "remat") place dash number cs h,
      not_5 number ("espill" up_to "ereload") place place dash cs h,
      not_5 number (only "none") dash dash dash cs h,
    )

-- ---- lists: as many numbers at least as the shape has, and a flag is a number

flag_second : (a c : Bool) (v : ℕ) → (a && (field_ok number v && c) && field_ok flag v) ≡ (a && (field_ok flag v && c))
unfolding field_ok
flag_second a c v =
    by_lt v 2 (λ h. rw (lt-ltb v 2 h, lt-ltb v number_limit (omega arith)) (and-true (a && c)))
    (λ h. rw (le-ltb v 2 h, and-false, and-false))

pub two_or_more : (cs : List ℕ) → (leb 2 (length cs) && all (field_ok number) cs) ≡ fits (number ▸ list₁) cs
unfolding fits
two_or_more [] = refl
two_or_more (u ∷ cs) =
    by_lt 0 (length cs) (λ h. rw (le-leb 2 (suc (length cs)) (omega arith), lt-ltb 0 (length cs) h))
    (λ h. rw (lt-leb 2 (suc (length cs)) (omega arith), le-ltb 0 (length cs) h, and-false))

pub three_or_more : (cs : List ℕ) → (leb 3 (length cs) && all (field_ok number) cs) ≡ fits (number ▸ number ▸ list₁) cs
unfolding fits
three_or_more [] = refl
three_or_more (u ∷ []) = sym (and-false (field_ok number u))
three_or_more (u ∷ v ∷ cs) =
    by_lt 0 (length cs) (λ h. rw (le-leb 3 (suc (suc (length cs))) (omega arith), lt-ltb 0 (length cs) h))
    (λ h. rw (lt-leb 3 (suc (suc (length cs))) (omega arith), le-ltb 0 (length cs) h, and-false, and-false))

pub flagged_two : (cs : List ℕ) → (leb 2 (length cs) && all (field_ok number) cs && field_ok flag (get_or cs 1 0)) ≡ fits (number ▸ flag ▸ list) cs
unfolding fits
flagged_two [] = refl
flagged_two (u ∷ []) = sym (and-false (field_ok number u))
flagged_two (u ∷ v ∷ cs) = rw (le-leb 2 (suc (suc (length cs))) (omega arith)) (flag_second (field_ok number u) (all (field_ok number) cs) v)

pub flagged_three : (cs : List ℕ) → (leb 3 (length cs) && all (field_ok number) cs && field_ok flag (get_or cs 1 0)) ≡ fits (number ▸ flag ▸ list₁) cs
unfolding fits
flagged_three [] = refl
flagged_three (u ∷ []) = sym (and-false (field_ok number u))
flagged_three (u ∷ v ∷ cs) =
    by_lt 0 (length cs)
    (λ h. rw (le-leb 3 (suc (suc (length cs))) (omega arith), lt-ltb 0 (length cs) h) (flag_second (field_ok number u) (all (field_ok number) cs) v))
    (λ h. rw (lt-leb 3 (suc (suc (length cs))) (omega arith), le-ltb 0 (length cs) h, and-false, and-false))

-- ---- a row is its kind's word and what stands after it

pub row_is : (r : List ℕ) → 0 < length r → fits_kind (get_or r 0 0) (take (length r - 1) (drop 1 r)) ≡ row_ok r
unfolding row_ok fits_kind
row_is [] h = absurd (omega arith)
row_is (c ∷ cs) h = ap (fits_kind c) (part_rest (c ∷ cs) 1)

pub no_row : (r : List ℕ) → length r ≡ 0 → false ≡ row_ok r
unfolding row_ok
no_row [] h = refl
no_row (c ∷ cs) h = absurd (omega arith)
