-- For the measure of the loop of src/ends.rt: sums over a list of numbers. Assumes nothing.
--     sum_of f xs       the sum of f at each number of xs
--     sum_set          what a store does to it
--     weight T X W     twice what is missing to T, over the sets, and the flags that are set
--     weight_raise     a set that grows and a flag that is set for it bring it down
--     weight_clear     a flag that is cleared brings it down
use mathlib.Core.Path.{◌≡◌}
use mathlib.Core.List.{List, [], ◌∷◌}
use Prim.Native.Nat.{ℕ, zero, suc, ◌+◌, ◌-◌, ◌*◌, ◌<◌}
use native.Mathlib.Nat.{not-suc-le-zero, le_of_suc-le-suc}
use native.Mathlib.Omega.{arith}
use lib.ListN.{length, get_or, set}

unfoldable pub sum_of : (ℕ → ℕ) → List ℕ → ℕ
sum_of f [] = 0
sum_of f (x ∷ xs) = f x + sum_of f xs

pub sum_set : (f : ℕ → ℕ) (xs : List ℕ) (i v : ℕ) → i < length xs → sum_of f (set xs i v) + f (get_or xs i 0) ≡ sum_of f xs + f v
unfolding sum_of
sum_set f [] i v h = absurd (not-suc-le-zero h)
sum_set f (x ∷ xs) zero v h = omega arith
sum_set f (x ∷ xs) (suc i) v h = omega (arith, sum_set f xs i v (le_of_suc-le-suc h))

unfoldable pub weight : ℕ → List ℕ → List ℕ → ℕ
weight T X W = 2 * sum_of (λ x. T - x) X + sum_of (λ w. w) W

pub weight_raise : (T : ℕ) (X W : List ℕ) (k v p : ℕ) → k < length X → p < length W → get_or X k 0 < T → get_or X k 0 < v → weight T (set X k v) (set W p 1) < weight T X W
unfolding weight
weight_raise T X W k v p hx hw ht hv = omega (arith, sum_set (λ x. T - x) X k v hx, sum_set (λ w. w) W p 1 hw)

pub weight_clear : (T : ℕ) (X W : List ℕ) (p : ℕ) → p < length W → (get_or W p 0 ≡ 0 → ⊥) → weight T X (set W p 0) < weight T X W
unfolding weight
weight_clear T X W p hw n = omega (arith, sum_set (λ w. w) W p 0 hw)
