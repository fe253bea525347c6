-- A list with a part stored into: what a loop that stores one place a turn promises.
use Rattle.std.specs.Prelude.{◌≡◌, List, ℕ, ◌+◌, ◌≤◌, ◌<◌, length, get_or}

-- l' is l with f j stored at `at` + j for each j below i
pub record Span (at : ℕ) (f : ℕ → ℕ) (l : List ℕ) (i : ℕ) (l' : List ℕ) : Type 0 where
  pub long : length l' ≡ length l
  pub done : (j : ℕ) → j < i → get_or l' (at + j) 0 ≡ f j
  pub before : (k : ℕ) → k < at → get_or l' k 0 ≡ get_or l k 0
  pub behind : (k : ℕ) → at + i ≤ k → get_or l' k 0 ≡ get_or l k 0
