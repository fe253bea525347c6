-- For `all`, `any` and `find` over a range in all three files of `src/`: the numbers that it goes through. Assumes nothing.
use mathlib.Core.Path.{◌≡◌, refl, ap, ◌∙◌}
use mathlib.Core.List.{List, ◌∷◌}
use Prim.Native.Nat.{ℕ, zero, suc, ◌+◌}
use native.Mathlib.Numerals.{add-one}
use Rattle.std.specs.List.{range_with_len}
use Rattle.laws.specs.Lists.{from}

-- the numbers that a range goes through
pub range_from : (a n : ℕ) → range_with_len a n ≡ from a n
unfolding from
range_from a zero = refl
range_from a (suc n) = ap (λ (l : List ℕ). a ∷ l) (range_from (a + 1) n ∙ ap (λ (k : ℕ). from k n) (add-one a))
