-- Laws of `all`, `any` and `keep`: one by one, and for loops that return at the first number or member at which a test says so. Passes on what laws says of `&&`.
-- Assumes nothing.
use mathlib.Core.Path.{◌≡◌, refl, sym, ap, ◌∙◌}
use mathlib.Core.Bool.{Bool, true, false}
use mathlib.Core.List.{List, [], ◌∷◌, map, map-map}
use Prim.Native.Nat.{ℕ, zero, suc, ◌+◌, ◌-◌, ◌≤◌, ◌<◌}
use native.Mathlib.Nat.{sub-eq-zero_of_le}
use native.Mathlib.Numerals.{add-one}
use native.Mathlib.Omega.{arith}
use lib.ListN.{length, get_or, drop, drop_of_length-le}
use lib.Seq.{drop-cons}
use Rattle.laws.specs.Lists.{all, any, keep, from}
use Rattle.std.proofs.lemmas.List.Folds.{list_all-map}
use Rattle.laws.proofs.Cases.{by_bool}
pub use Rattle.laws.proofs.Cases.{and_left, and_right, and_both, never}

-- ---- one by one

module _ {A : Type 0} (f : A → Bool) (d : A) where
  pub all_at : (l : List A) → all f l ≡ true → (j : ℕ) → j < length l → f (get_or l j d) ≡ true
  all_at [] e j h = absurd (omega arith)
  all_at (x ∷ l) e zero h = and_left (f x) (all f l) e
  all_at (x ∷ l) e (suc j) h = all_at l (and_right (f x) (all f l) e) j (omega arith)

  pub all_each : (l : List A) → ((j : ℕ) → j < length l → f (get_or l j d) ≡ true) → all f l ≡ true
  all_each [] h = refl
  all_each (x ∷ l) h = and_both (f x) (all f l) (h 0 (omega arith)) (all_each l (λ j u. h (suc j) (omega arith)))

  pub any_hit : (l : List A) (j : ℕ) → j < length l → f (get_or l j d) ≡ true → any f l ≡ true
  any_hit [] j h e = absurd (omega arith)
  any_hit (x ∷ l) zero h e = rw e
  any_hit (x ∷ l) (suc j) h e = by_bool (f x) (λ p. rw p) (λ p. rw p (any_hit l j (omega arith) e))

-- two tests that agree
module _ {A : Type 0} (f g : A → Bool) where
  pub all_same : (l : List A) → ((x : A) → f x ≡ g x) → all f l ≡ all g l
  all_same [] h = refl
  all_same (x ∷ l) h = rw (h x, all_same l h)

  pub keep_same : (l : List A) → ((x : A) → f x ≡ g x) → keep f l ≡ keep g l
  unfolding keep
  keep_same [] h = refl
  keep_same (x ∷ l) h = rw (h x, keep_same l h)

module _ {A B : Type 0} (g : A → B) (f : B → Bool) where
  pub all_map : (l : List A) → all f (map g l) ≡ all (λ x. f (g x)) l
  all_map l = list_all-map f g l

  pub any_map : (l : List A) → any f (map g l) ≡ any (λ x. f (g x)) l
  any_map [] = refl
  any_map (x ∷ l) = rw (any_map l)

  pub keep_map : (l : List A) → keep f (map g l) ≡ map g (keep (λ x. f (g x)) l)
  unfolding keep
  keep_map [] = refl
  keep_map (x ∷ l) = by_bool (f (g x)) (λ e. rw (e, keep_map l)) (λ e. rw (e, keep_map l))

-- ---- a loop over i, i + 1, .. up to n: what remains gives the same answer

module _ (f : ℕ → Bool) (i n : ℕ) where
  step : i < n → n - i ≡ suc (n - (i + 1))
  step h = omega arith

  -- it goes on while f is true
  pub all_false : i < n → f i ≡ false → all f (from i (n - i)) ≡ false
  unfolding from
  all_false h e = rw (step h, e)

  pub all_next : i < n → f i ≡ true → all f (from (i + 1) (n - (i + 1))) ≡ all f (from i (n - i))
  unfolding from
  all_next h e = rw (step h, e, add-one)

  pub all_end : n ≤ i → all f (from i (n - i)) ≡ true
  unfolding from
  all_end h = rw (sub-eq-zero_of_le h)

  -- it goes on while f is false
  pub any_true : i < n → f i ≡ true → any f (from i (n - i)) ≡ true
  unfolding from
  any_true h e = rw (step h, e)

  pub any_next : i < n → f i ≡ false → any f (from (i + 1) (n - (i + 1))) ≡ any f (from i (n - i))
  unfolding from
  any_next h e = rw (step h, e, add-one)

  pub any_end : n ≤ i → any f (from i (n - i)) ≡ false
  unfolding from
  any_end h = rw (sub-eq-zero_of_le h)

-- ---- the same over the members of a list

module _ {A : Type 0} (f : A → Bool) (d : A) (l : List A) (i : ℕ) where
  pub all_false_in : i < length l → f (get_or l i d) ≡ false → all f (drop i l) ≡ false
  all_false_in h e = rw (drop-cons l i d, e)

  pub all_next_in : i < length l → f (get_or l i d) ≡ true → all f (drop (i + 1) l) ≡ all f (drop i l)
  all_next_in h e = rw (drop-cons l i d, e, add-one)

  pub all_end_in : length l ≤ i → all f (drop i l) ≡ true
  all_end_in h = rw (drop_of_length-le l h)

  pub any_true_in : i < length l → f (get_or l i d) ≡ true → any f (drop i l) ≡ true
  any_true_in h e = rw (drop-cons l i d, e)

  pub any_next_in : i < length l → f (get_or l i d) ≡ false → any f (drop (i + 1) l) ≡ any f (drop i l)
  any_next_in h e = rw (drop-cons l i d, e, add-one)

  pub any_end_in : length l ≤ i → any f (drop i l) ≡ false
  any_end_in h = rw (drop_of_length-le l h)

-- ---- a list by the numbers of its members

from_suc : (a n : ℕ) → from (suc a) n ≡ map suc (from a n)
unfolding from
from_suc a zero = refl
from_suc a (suc n) = ap (λ (l : List ℕ). suc a ∷ l) (from_suc (suc a) n)

module _ {A : Type 0} (d : A) where
  by_numbers : (l : List A) → l ≡ map (λ j. get_or l j d) (from 0 (length l))
  unfolding from
  by_numbers [] = refl
  by_numbers (x ∷ l) =
      ap (λ (m : List A). x ∷ m)
      (by_numbers l ∙ sym (ap (map (λ j. get_or (x ∷ l) j d)) (from_suc 0 (length l)) ∙ map-map (λ j. get_or (x ∷ l) j d) suc (from 0 (length l))))

module _ {A : Type 0} (f : A → Bool) (d : A) (l : List A) where
  pub all_numbers : all f l ≡ all (λ j. f (get_or l j d)) (from 0 (length l))
  all_numbers = ap (all f) (by_numbers d l) ∙ all_map (λ j. get_or l j d) f (from 0 (length l))

  pub any_numbers : any f l ≡ any (λ j. f (get_or l j d)) (from 0 (length l))
  any_numbers = ap (any f) (by_numbers d l) ∙ any_map (λ j. get_or l j d) f (from 0 (length l))
