-- For `src/lists.rt`, and `all_units` of `src/names.rt`: loops that gather a set, and the test whether one of a list stands twice by the set of those
-- passed. Assumes nothing.
use mathlib.Core.Path.{◌≡◌, refl, sym, ◌∙◌}
use mathlib.Core.Bool.{Bool, true, false, ◌||◌, or_assoc, or-true, or-false}
use mathlib.Core.List.{List, [], ◌∷◌}
use Prim.Native.Nat.{ℕ, zero, suc, ◌+◌, ◌≤◌, ◌<◌}
use native.Mathlib.Numerals.{add-one}
use lib.Dec.{eqb, ltb}
use lib.ListN.{length, get_or, drop, drop_of_length-le}
use lib.Seq.{drop-cons}
use borrow.Author.Tests.{ltb-true}
use Rattle.laws.specs.Lists.{all, any, is_in, twice}
use Rattle.laws.proofs.Cases.{by_bool, eqb_same}
use Rattle.bits.specs.declared.sets.NumberSet.{NumberSet}
use Rattle.bits.specs.Sets.{has, set_of, set_limit, IsSet}
use Rattle.bits.proofs.Members.{has_set_of, is_set_lem, is_set_of, set_of_same}
use Rattle.table.proofs.Loops.{and_left, and_right}

-- s with what the members of l from the i-th on add is all: member x adds the k of which q k x is true
pub record Growing {A : Type 0} (q : ℕ → A → Bool) (l : List A) (all : NumberSet) (i : ℕ) (s : NumberSet) : Type 0 where
  pub set : IsSet s
  pub rest : set_of (λ k. has s k || any (q k) (drop i l)) ≡ all

module _ {A : Type 0} {q : ℕ → A → Bool} {l : List A} {every : NumberSet} {i : ℕ} {s : NumberSet} (g : Growing q l every i s) where
  pub grow_next : (d : A) {s' : NumberSet} → i < length l → s' ≡ set_of (λ k. has s k || q k (get_or l i d)) → Growing q l every (i + 1) s'
  grow_next d {s'} h e =
      record {
        set = rw e (is_set_lem (λ k. has s k || q k (get_or l i d)));
        rest =
            set_of_same (λ k. has s' k || any (q k) (drop (i + 1) l)) (λ k. has s k || any (q k) (drop i l)) (λ k b.
            rw (e, has_set_of (λ j. has s j || q j (get_or l i d)) k b, drop-cons l i d h, add-one) (or_assoc (has s k) (q k (get_or l i d)) (any (q k) (drop (suc i) l))))
            ∙ g.rest;
      }

  pub grow_end : length l ≤ i → s ≡ every
  grow_end h = is_set_of (λ k. has s k || any (q k) (drop i l)) s g.set (λ k b. rw (drop_of_length-le l h) (sym (or-false (has s k)))) ∙ g.rest

-- ---- a list all below the limit of sets

abbrev pub below : List ℕ → Bool
below l = all (λ x. ltb x set_limit) l

module _ {A : Type 0} (p : A → Bool) where
  pub all_drop : (l : List A) (i : ℕ) → all p l ≡ true → all p (drop i l) ≡ true
  all_drop l zero e = e
  all_drop [] (suc i) e = refl
  all_drop (x ∷ l) (suc i) e = all_drop l i (and_right (p x) (all p l) e)

  -- a test that is stronger on each
  pub all_more : (q : A → Bool) → ((x : A) → p x ≡ true → q x ≡ true) → (l : List A) → all p l ≡ true → all q l ≡ true
  all_more q h [] e = refl
  all_more q h (x ∷ l) e = rw (h x (and_left (p x) (all p l) e), all_more q h l (and_right (p x) (all p l) e))

-- two tests that agree on what passes a third
module _ {A : Type 0} (p f g : A → Bool) (h : (x : A) → p x ≡ true → f x ≡ g x) where
  pub all_on : (l : List A) → all p l ≡ true → all f l ≡ all g l
  all_on [] e = refl
  all_on (x ∷ l) e = rw (h x (and_left (p x) (all p l) e), all_on l (and_right (p x) (all p l) e))

  pub any_on : (l : List A) → all p l ≡ true → any f l ≡ any g l
  any_on [] e = refl
  any_on (x ∷ l) e = rw (h x (and_left (p x) (all p l) e), any_on l (and_right (p x) (all p l) e))

module _ (f : ℕ → Bool) (l : List ℕ) (e : below l ≡ true) where
  pub all_set_of : all (has (set_of f)) l ≡ all f l
  all_set_of = all_on (λ x. ltb x set_limit) (has (set_of f)) f (λ x h. has_set_of f x (ltb-true x set_limit h)) l e

  pub any_set_of : any (has (set_of f)) l ≡ any f l
  any_set_of = any_on (λ x. ltb x set_limit) (has (set_of f)) f (λ x h. has_set_of f x (ltb-true x set_limit h)) l e

any_or : (f g : ℕ → Bool) (l : List ℕ) → any (λ x. f x || g x) l ≡ (any f l || any g l)
any_or f g [] = refl
any_or f g (x ∷ l) = by_bool (f x) (λ a. rw a) (λ a. by_bool (g x) (λ b. rw (a, b) (sym (or-true (any f l)))) (λ b. rw (a, b) (any_or f g l)))

any_none : (l : List ℕ) → any (λ x. false) l ≡ false
any_none [] = refl
any_none (x ∷ l) = any_none l

pub in_turn : (x : ℕ) (l : List ℕ) → any (λ k. eqb k x) l ≡ is_in x l
unfolding is_in
in_turn x [] = refl
in_turn x (y ∷ l) = rw (eqb_same y x x y sym sym, in_turn x l)

-- one of the rest is among those passed, s, or stands twice in the rest
unfoldable pub again : NumberSet → List ℕ → Bool
again s l = any (has s) l || twice l

module _ (l : List ℕ) (e : below l ≡ true) where
  pub twice_start : {s : NumberSet} → s ≡ set_of (λ k. false) → again s l ≡ twice l
  unfolding again
  twice_start q = rw (q, any_set_of (λ k. false) l e, any_none l)

module _ (s : NumberSet) (l : List ℕ) (i : ℕ) where
  pub twice_found : i < length l → has s (get_or l i 0) ≡ true → again s (drop i l) ≡ true
  unfolding again
  twice_found h q = rw (drop-cons l i 0 h, q)

  pub twice_next : below l ≡ true → i < length l → has s (get_or l i 0) ≡ false → {s' : NumberSet} → s' ≡ set_of (λ k. has s k || eqb k (get_or l i 0)) → again s' (drop (i + 1) l) ≡ again s (drop i l)
  unfolding again twice
  twice_next e h q {s'} z =
      let r = drop (suc i) l in
      let x = get_or l i 0 in
      rw (z, add-one, any_set_of (λ k. has s k || eqb k x) r (all_drop (λ x. ltb x set_limit) l (suc i) e), any_or (has s) (λ k. eqb k x) r, in_turn x r, drop-cons l i 0 h, q)
      (or_assoc (any (has s) r) (is_in x r) (twice r))

  pub twice_end : length l ≤ i → again s (drop i l) ≡ false
  unfolding again twice
  twice_end h = rw (drop_of_length-le l h)

-- before the first turn, from nothing
pub grow_none : {A : Type 0} (q : ℕ → A → Bool) (l : List A) {s : NumberSet} → s ≡ set_of (λ k. false) → Growing q l (set_of (λ k. any (q k) l)) 0 s
grow_none q l {s} e =
    record {
      set = rw e (is_set_lem (λ k. false));
      rest = set_of_same (λ k. has s k || any (q k) l) (λ k. any (q k) l) (λ k b. rw (e, has_set_of (λ j. false) k b));
    }

-- a set with a list, by another name of the list
pub add_list : (s : NumberSet) {xs ys : List ℕ} → xs ≡ ys → set_of (λ k. has s k || is_in k xs) ≡ set_of (λ k. has s k || is_in k ys)
add_list s e = rw e
