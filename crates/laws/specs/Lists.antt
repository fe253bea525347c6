-- Tests and choices over a list.
use Rattle.std.specs.Prelude.{Bool, false, cond, ◌||◌, List, [], ◌∷◌, ℕ, zero, suc, eqb}
use Rattle.std.specs.List.{list_all, list_any}

-- f is true of each
abbrev pub all : {A : Type 0} → (A → Bool) → List A → Bool
all f xs = list_all f xs

-- f is true of one
abbrev pub any : {A : Type 0} → (A → Bool) → List A → Bool
any f xs = list_any f xs

-- those of which f is true, in their order
unfoldable pub keep : {A : Type 0} → (A → Bool) → List A → List A
keep f [] = []
keep f (x ∷ xs) = cond (f x) (x ∷ keep f xs) (keep f xs)

-- x is one of the numbers
unfoldable pub is_in : ℕ → List ℕ → Bool
is_in x ys = any (eqb x) ys

-- one of the numbers stands twice
unfoldable pub twice : List ℕ → Bool
twice [] = false
twice (x ∷ xs) = is_in x xs || twice xs

-- the n numbers from k on
unfoldable pub from : ℕ → ℕ → List ℕ
from k zero = []
from k (suc n) = k ∷ from (suc k) n
