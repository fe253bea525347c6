-- The first number at which a test holds, as an answer of any enum: `at` makes the answer of a number, `none` is the other.
use Rattle.std.specs.Prelude.{Bool, ℕ, zero, suc}
use Rattle.laws.specs.Choice.{pick}

-- the first of i, i + 1, .., n of them, at which f is true
unfoldable pub first : {A : Type 0} → (ℕ → A) → A → (ℕ → Bool) → ℕ → ℕ → A
first at none f i zero = none
first at none f i (suc n) = pick (f i) (at i) (first at none f (suc i) n)
