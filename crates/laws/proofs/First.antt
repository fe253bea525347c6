-- Laws of `first` (specs/First.antt). Assumes nothing.
use mathlib.Core.Path.{◌≡◌, refl}
use mathlib.Core.Bool.{Bool, true, false}
use mathlib.Core.Option.{none, some}
use Prim.Native.Nat.{ℕ, zero, suc, ◌+◌, ◌≤◌, ◌<◌}
use native.Mathlib.Omega.{arith}
use Rattle.laws.specs.First.{first}
use Rattle.laws.proofs.Cases.{by_bool, by_eq}

module _ {A : Type 0} (at : ℕ → A) (other : A) (f : ℕ → Bool) where
  -- f is false at each
  pub first_none : (i n : ℕ) → ((k : ℕ) → i ≤ k → k < i + n → f k ≡ false) → first at other f i n ≡ other
  unfolding first
  first_none i zero h = refl
  first_none i (suc n) h = rw (h i (omega arith) (omega arith)) (first_none (suc i) n (λ k p q. h k (omega arith) (omega arith)))

  -- f is true at r and false before
  pub first_at : (i n r : ℕ) → i ≤ r → r < i + n → f r ≡ true → ((k : ℕ) → i ≤ k → k < r → f k ≡ false) → first at other f i n ≡ at r
  unfolding first
  first_at i zero r p q e h = absurd (omega arith)
  first_at i (suc n) r p q e h =
      by_eq i r (λ d. rw (d, e))
      (λ d. rw (h i (omega arith) (omega arith)) (first_at (suc i) n r (omega arith) (omega arith) e (λ k l u. h k (omega arith) u)))

-- an answer carried over to another enum
pub first_map : {A B : Type 0} (g : A → B) (at : ℕ → A) (other : A) (f : ℕ → Bool) (i n : ℕ) → g (first at other f i n) ≡ first (λ k. g (at k)) (g other) f i n
unfolding first
first_map g at other f i zero = refl
first_map g at other f i (suc n) = by_bool (f i) (λ e. rw e) (λ e. rw e (first_map g at other f (suc i) n))

-- ---- as an option

-- f is true at the first, and false before
pub record Found (f : ℕ → Bool) (i n b : ℕ) : Type 0 where
  pub yes : f b ≡ true
  pub above : i ≤ b
  pub below : b < i + n
  pub before : (k : ℕ) → i ≤ k → k < b → f k ≡ false

pub first_found : (f : ℕ → Bool) (i n b : ℕ) → first some none f i n ≡ some b → Found f i n b
unfolding first
first_found f i zero b e = let z : ◌≡◌ {A = ℕ} 0 1 = cc in absurd (omega arith)
first_found f i (suc n) b e =
    by_bool (f i)
    (λ t. let d : some i ≡ some b = rw t at e in let q : i ≡ b = cc in record { yes = rw q at t; above = omega arith; below = omega arith; before = λ k l u. absurd (omega arith) })
    (λ t.
    let d : first some none f (suc i) n ≡ some b = rw t at e in
    let r = first_found f (suc i) n b d in
    record { yes = r.yes; above = omega arith; below = omega arith; before = λ k l u. by_eq k i (λ q. rw q t) (λ q. r.before k (omega arith) u) })

pub first_nothing : (f : ℕ → Bool) (i n : ℕ) → first some none f i n ≡ none → (k : ℕ) → i ≤ k → k < i + n → f k ≡ false
unfolding first
first_nothing f i zero e k l u = absurd (omega arith)
first_nothing f i (suc n) e k l u =
    by_bool (f i) (λ t. let d : some i ≡ none = rw t at e in let z : ◌≡◌ {A = ℕ} 0 1 = cc in absurd (omega arith))
    (λ t. let d : first some none f (suc i) n ≡ none = rw t at e in by_eq k i (λ q. rw q t) (λ q. first_nothing f (suc i) n d k (omega arith) (omega arith)))
