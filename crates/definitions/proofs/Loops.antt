-- The loops of src/lib.rt over what is left of a list: the record run through it, and the set that gathers units. Assumes nothing.
use mathlib.Core.Path.{◌≡◌, refl, sym, ap, ◌∙◌}
use mathlib.Core.Bool.{Bool, false, ◌||◌, or_assoc, or-false}
use mathlib.Core.List.{List, [], ◌∷◌, ◌++◌, flat_map, zip_with}
use Prim.Native.Nat.{ℕ, ◌<◌}
use lib.Dec.{eqb}
use Rattle.std.specs.Iterator.Adapters.{zip_first, zip_second}
use Rattle.std.proofs.Common.{◌⊎◌, inl, inr, Iter}
use Rattle.std.specs.declared.iter.Zip.{Zip}
use Rattle.std.specs.Slice.Iter.{iter_rest}
use Rattle.laws.specs.Fold.{run}
use Rattle.laws.specs.Lists.{is_in}
use Rattle.laws.proofs.Lists.{is_append}
use Rattle.bits.specs.Sets.{has, set_of, set_limit}
use Rattle.bits.specs.declared.sets.NumberSet.{NumberSet}
use Rattle.bits.proofs.Members.{has_set_of}
use Rattle.definitions.specs.Definitions.{With, Only}

-- ---- a run over a list of lists

run_append : {S A : Type 0} (f : S → A → S) (s : S) (xs ys : List A) → run f s (xs ++ ys) ≡ run f (run f s xs) ys
unfolding run
run_append f s [] ys = refl
run_append f s (x ∷ xs) ys = run_append f (f s x) xs ys

pub run_flat : {S A B : Type 0} (f : S → B → S) (h : A → List B) (s : S) (l : List A) → run (λ s x. run f s (h x)) s l ≡ run f s (flat_map h l)
unfolding run flat_map
run_flat f h s [] = refl
run_flat f h s (x ∷ l) = run_flat f h (run f s (h x)) l ∙ sym (run_append f s (h x) (flat_map h l))

-- ---- two lists side by side

zip_nil : {A : Type 0} (f : ℕ → ℕ → A) (vs : List ℕ) → zip_with f vs [] ≡ []
unfolding zip_with
zip_nil f [] = refl
zip_nil f (v ∷ vs) = refl

module _ {A : Type 0} (f : ℕ → ℕ → A) {vs rs : List ℕ} where
  -- what an iterator over both has left: at first, with one more pair, and at the end
  pub zip_all : {it z : Zip (Iter ℕ) (Iter ℕ)} {i : Iter ℕ} → it ≡ z → zip_first z ≡ i → iter_rest i ≡ vs → iter_rest (zip_second z) ≡ rs
      → zip_with f (iter_rest (zip_first it)) (iter_rest (zip_second it)) ≡ zip_with f vs rs
  zip_all e p q r = rw (e, p, q, r)

  pub zip_more : {v r : ℕ} {vs' rs' : List ℕ} → (vs ≡ v ∷ vs') × (rs ≡ r ∷ rs') → zip_with f vs rs ≡ f v r ∷ zip_with f vs' rs'
  unfolding zip_with
  zip_more e = rw (e.0, e.1)

  pub zip_done : (vs ≡ []) ⊎ (rs ≡ []) → zip_with f vs rs ≡ []
  unfolding zip_with
  zip_done (inl e) = rw e
  zip_done (inr e) = rw e (zip_nil f vs)

-- ---- a run: what is left of the list gives s

module _ {S A : Type 0} (f : S → A → S) {a s : S} {l : List A} where
  pub rest_next : {b : S} {x : A} {l' : List A} → l ≡ x ∷ l' → run f a l ≡ s → b ≡ f a x → run f b l' ≡ s
  unfolding run
  rest_next {l' = l'} e p q = ap (λ (u : S). run f u l') q ∙ sym (ap (run f a) e) ∙ p

  pub rest_end : l ≡ [] → run f a l ≡ s → a ≡ s
  unfolding run
  rest_end e p = sym (ap (run f a) e) ∙ p

-- ---- the set: what is left of the list, added, gives the set with all

pub with_none : (s : NumberSet) → With s [] s
unfolding is_in
with_none s = record { each = λ k h. sym (or-false (has s k)) }

pub with_one : {s s' : NumberSet} (u : ℕ) → s' ≡ set_of (λ k. has s k || eqb k u) → With s (u ∷ []) s'
unfolding is_in
with_one {s} u e = record { each = λ k h. rw (e, has_set_of (λ k. has s k || eqb k u) k h, or-false (eqb k u)) }

-- the same units by another name
pub with_as : {s s' : NumberSet} {us vs : List ℕ} → us ≡ vs → With s us s' → With s vs s'
with_as {s} {s'} e w = record { each = λ k h. rw (← e) (w.each k h) }

pub record Gathering (l all : List ℕ) (s₀ s : NumberSet) : Type 0 where
  pub same : (k : ℕ) → k < set_limit → (has s k || is_in k l) ≡ (has s₀ k || is_in k all)

pub gather_start : (s : NumberSet) {l all : List ℕ} → l ≡ all → Gathering l all s s
gather_start s e = record { same = λ k h. rw e }

module _ {l all : List ℕ} {s₀ s : NumberSet} where
  pub gather_next : (xs : List ℕ) {l' : List ℕ} {s' : NumberSet} → l ≡ xs ++ l' → Gathering l all s₀ s → With s xs s' → Gathering l' all s₀ s'
  gather_next xs {l'} e p w =
      record {
        same = λ k h.
            rw (w.each k h) (or_assoc (has s k) (is_in k xs) (is_in k l') ∙ sym (ap (λ (b : Bool). has s k || b) (ap (is_in k) e ∙ is_append k xs l')) ∙ p.same k h);
      }

  pub gather_end : l ≡ [] → Gathering l all s₀ s → With s₀ all s
  unfolding is_in
  gather_end e p = record { each = λ k h. sym (or-false (has s k)) ∙ sym (ap (λ (y : List ℕ). has s k || is_in k y) e) ∙ p.same k h }

-- from nothing
pub only_with : {s₀ s : NumberSet} {us : List ℕ} → s₀ ≡ set_of (λ k. false) → With s₀ us s → Only s us
only_with {s₀} {s} {us} e w = record { each = λ k h. w.each k h ∙ ap (λ (b : Bool). b || is_in k us) (ap (λ (x : NumberSet). has x k) e ∙ has_set_of (λ k. false) k h) }

-- ---- a list of lists

module _ {A : Type 0} (f : A → List ℕ) {l : List A} where
  pub flat_here : {x : A} {l' : List A} → l ≡ x ∷ l' → flat_map f l ≡ f x ++ flat_map f l'
  unfolding flat_map
  flat_here e = ap (flat_map f) e

  pub flat_none : l ≡ [] → flat_map f l ≡ []
  unfolding flat_map
  flat_none e = ap (flat_map f) e
