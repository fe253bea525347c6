-- Facts on lists, on `In` of rules/specs/Function.antt and on walks, for the other proofs of this crate and for the sweep's. Assumes nothing.
use mathlib.Core.Path.{◌≡◌}
use mathlib.Core.Bool.{Bool, true}
use mathlib.Core.Logic.{◌⊎◌, inl, inr, ⊎_elim}
use mathlib.Core.List.{List, [], ◌∷◌, ◌++◌, map}
use Prim.Native.Nat.{ℕ, zero, suc, ◌+◌, ◌<◌}
use native.Mathlib.Omega.{arith}
use lib.ListN.{get_or, drop}
use Rattle.laws.specs.Lists.{from, all}
use Rattle.laws.proofs.Cases.{and_left, and_right}
use Rattle.rules.specs.Function.{In}

pub drop_next : {T : Type 0} (l : List T) (i : ℕ) (x : T) (xs : List T) → drop i l ≡ x ∷ xs → drop (suc i) l ≡ xs
drop_next [] zero x xs q = cc
drop_next [] (suc i) x xs q = cc
drop_next (y ∷ ys) zero x xs q = cc
drop_next (y ∷ ys) (suc i) x xs q = drop_next ys i x xs q

-- a list of what g gives at the n numbers from k on
pub map_from : {A : Type 0} (g : ℕ → A) (d : A) (k n b : ℕ) → b < n → get_or (map g (from k n)) b d ≡ g (k + b)
unfolding from
map_from g d k zero b h = absurd (omega arith)
map_from g d k (suc n) zero h = let e : k + 0 ≡ k = omega arith in rw e
map_from g d k (suc n) (suc b) h = let e : k + suc b ≡ suc k + b = omega arith in rw e (map_from g d (suc k) n b (omega arith))

-- a member of two lists joined is a member of one
pub either : (s : ℕ) (l m : List ℕ) → In s (l ++ m) → In s l ⊎ In s m
either s [] m h = inr h
either s (x ∷ l) m h = ⊎_elim (λ e. inl (inl e)) (λ y. ⊎_elim (λ a. inl (inr a)) inr (either s l m y)) h

-- what is true of all is true of each member
pub all_true : (f : ℕ → Bool) (l : List ℕ) → all f l ≡ true → (s : ℕ) → In s l → f s ≡ true
all_true f [] e s h = absurd h
all_true f (x ∷ l) e s h = ⊎_elim (λ q. rw q (and_left (f x) (all f l) e)) (all_true f l (and_right (f x) (all f l) e) s) h

-- a walk's first block, and the others
abbrev pub start : List ℕ → ℕ
start [] = 0
start (b ∷ w) = b

abbrev pub rest_of : List ℕ → List ℕ
rest_of [] = []
rest_of (b ∷ w) = w
