-- For the loops of src/wanted.rt and src/sweep.rt over the numbers of a range, from the last to the first. Assumes nothing.
--     Down r n      the loop has come to n
--     down-first, down_next       it begins at the end, and goes on
--     back_first, back_next, back_all      `back` over the numbers that it has passed
--     Going, going_first, going_next, going_done      a loop that keeps a set of slots
use mathlib.Core.Path.{◌≡◌, refl, ap}
use mathlib.Core.Logic.{◌⊎◌, inl, inr, ⊎_elim}
use mathlib.Core.List.{List, ◌∷◌}
use Prim.Native.Nat.{ℕ, zero, suc, ◌+◌, ◌-◌, ◌<◌, ◌≤◌}
use native.Mathlib.Omega.{arith}
use Rattle.laws.specs.Lists.{from}
use Rattle.laws.proofs.Cases.{by_lt}
use Rattle.bits.specs.declared.sets.NumberSet.{NumberSet}
use Rattle.rules.specs.Function.{In}
use Rattle.table.specs.declared.index.Range.{Range}
use Rattle.dead_spill_elimination.specs.Slots.{Same, numbers, back}

abbrev pub Down : Range → ℕ → Type 0
Down r n = (n ≡ r.to) ⊎ ((r.from ≤ n) × (n ≤ r.to))

-- the numbers that it has passed
abbrev pub passed : Range → ℕ → List ℕ
passed r n = from n (r.to - n)

pub down_next : (r : Range) (n : ℕ) → Down r n → r.from < n → Down r (n - 1)
down_next r n d h = ⊎_elim (λ e. inr (omega arith, omega arith)) (λ w. inr (omega arith, omega arith)) d

pub at_most : (r : Range) (n : ℕ) → Down r n → n ≤ r.to
at_most r n d = ⊎_elim (λ e. omega arith) (λ w. w.1) d

pub from_next : (n m : ℕ) → 0 < n → n ≤ m → from (n - 1) (m - (n - 1)) ≡ (n - 1) ∷ from n (m - n)
unfolding from
from_next n m h l =
    let a : m - (n - 1) ≡ suc (m - n) = omega arith in
    let b : suc (n - 1) ≡ n = omega arith in
    rw (a, from, b)

-- a number of the range is one of its numbers
pub in_from : (a n x : ℕ) → a ≤ x → x < a + n → In x (from a n)
unfolding from
in_from a zero x h l = absurd (omega arith)
in_from a (suc n) x h l = by_lt a x (λ u. inr (in_from (suc a) n x u (omega arith))) (λ u. inl (omega arith))

pub in_numbers : (r : Range) (n : ℕ) → Down r n → r.from < n → In (n - 1) (numbers r)
in_numbers r n d h = let m = at_most r n d in in_from r.from (r.to - r.from) (n - 1) (omega arith) (omega arith)

pub passed_all : (r : Range) (n : ℕ) → Down r n → n ≤ r.from → passed r n ≡ numbers r
unfolding from
passed_all r n d h =
    ⊎_elim
    (λ e.
    let a : r.to - n ≡ 0 = omega arith in
    let b : r.to - r.from ≡ 0 = omega arith in
    rw (a, b, from))
    (λ w. let e : n ≡ r.from = omega arith in rw e) d

module _ {S : Type 0} (f : ℕ → S → S) (r : Range) (a : S) where
  pub back_first : back f (passed r r.to) a ≡ a
  unfolding back from
  back_first = let z : r.to - r.to ≡ 0 = omega arith in rw (z, from, back)

  pub back_next : (n : ℕ) → Down r n → r.from < n → back f (passed r (n - 1)) a ≡ f (n - 1) (back f (passed r n) a)
  unfolding back
  back_next n d h = let m = at_most r n d in rw (from_next n r.to (omega arith) m, back)

  pub back_all : (n : ℕ) → Down r n → n ≤ r.from → back f (passed r n) a ≡ back f (numbers r) a
  back_all n d h = ap (λ (l : List ℕ). back f l a) (passed_all r n d h)

-- ---- a loop that keeps a set of slots

-- where P holds, the set S is what `back` makes of the numbers passed, from S₀
abbrev pub Going : Type 0 → (ℕ → List ℕ → List ℕ) → Range → NumberSet → NumberSet → ℕ → Type 0
Going P f r S₀ S n = Down r n × ((A : List ℕ) → P → Same S₀ A → Same S (back f (passed r n) A))

module _ (P : Type 0) (f : ℕ → List ℕ → List ℕ) (r : Range) (S₀ : NumberSet) where
  pub going_first : Going P f r S₀ S₀ r.to
  going_first = (inl refl, λ A p h. rw (back_first f r A) h)

  pub going_next : (S S' : NumberSet) (n : ℕ) → Going P f r S₀ S n → r.from < n → ((A : List ℕ) → P → Same S A → Same S' (f (n - 1) A)) → Going P f r S₀ S' (n - 1)
  going_next S S' n g h s = (down_next r n g.0 h, λ A p x. rw (back_next f r A n g.0 h) (s (back f (passed r n) A) p (g.1 A p x)))

  pub going_done : (S : NumberSet) (n : ℕ) → Going P f r S₀ S n → n ≤ r.from → (A : List ℕ) → P → Same S₀ A → Same S (back f (numbers r) A)
  going_done S n g h A p x = rw (← back_all f r A n g.0 h) (g.1 A p x)
