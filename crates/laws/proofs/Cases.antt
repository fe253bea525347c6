-- Proofs by cases: on a test, on an order, on an equation of numbers, on an option; and tests joined by `&&`. For the proofs of every crate. Assumes nothing.
use mathlib.Core.Path.{◌≡◌, refl, sym, ◌∙◌}
use mathlib.Core.Bool.{Bool, true, false, ◌&&◌}
use mathlib.Core.List.{List, [], ◌∷◌}
use mathlib.Core.Option.{Option, none, some}
use Prim.Native.Nat.{ℕ, zero, suc, ◌≤◌, ◌<◌}
use native.Mathlib.Omega.{arith}
use lib.Dec.{eqb, ltb}
use lib.ListN.{get_or}
use borrow.Author.Tests.{ltb-true, ltb-false, eqb-true, eqb-false, eq-eqb, ne_eqb}

pub by_bool : {C : Type 0} (t : Bool) → (t ≡ true → C) → (t ≡ false → C) → C
by_bool true f g = f refl
by_bool false f g = g refl

pub by_lt : {C : Type 0} (a b : ℕ) → (a < b → C) → (b ≤ a → C) → C
by_lt a b f g = by_bool (ltb a b) (λ e. f (ltb-true a b e)) (λ e. g (ltb-false a b e))

pub by_eq : {C : Type 0} (a b : ℕ) → (a ≡ b → C) → ((a ≡ b → ⊥) → C) → C
by_eq a b f g = by_bool (eqb a b) (λ e. f (eqb-true a b e)) (λ e. g (eqb-false a b e))

pub by_option : {A C : Type 0} (o : Option A) → (o ≡ none → C) → ((a : A) → o ≡ some a → C) → C
by_option none f g = f refl
by_option (some a) f g = g a refl

-- ---- what cannot be

-- a test that is false and true
pub never : {C : Type 0} → false ≡ true → C
never e = let z : ◌≡◌ {A = ℕ} 0 1 = cc in absurd (omega arith)

-- an option that is something and nothing
pub some_ne_none : {A C : Type 0} {a : A} {o : Option A} → o ≡ some a → o ≡ none → C
some_ne_none e f = let z : ◌≡◌ {A = ℕ} 0 1 = cc in absurd (omega arith)

-- ---- two tests that say one thing

pub same_test : (a b : Bool) → (a ≡ true → b ≡ true) → (b ≡ true → a ≡ true) → a ≡ b
same_test true b f g = sym (f refl)
same_test false true f g = g refl
same_test false false f g = refl

pub eqb_same : (a b c d : ℕ) → (a ≡ b → c ≡ d) → (c ≡ d → a ≡ b) → eqb a b ≡ eqb c d
eqb_same a b c d f g = by_eq a b (λ e. eq-eqb a b e ∙ sym (eq-eqb c d (f e))) (λ n. ne_eqb a b n ∙ sym (ne_eqb c d (λ e. n (g e))))

-- ---- tests joined by `&&`

pub and_left : (a b : Bool) → (a && b) ≡ true → a ≡ true
and_left true b e = refl
and_left false b e = e

pub and_right : (a b : Bool) → (a && b) ≡ true → b ≡ true
and_right true b e = e
and_right false true e = refl
and_right false false e = e

pub and_parts : (a b : Bool) → (a && b) ≡ true → (a ≡ true) × (b ≡ true)
and_parts a b e = (and_left a b e, and_right a b e)

pub and_both : (a b : Bool) → a ≡ true → b ≡ true → (a && b) ≡ true
and_both a b p q = rw (p, q)

-- a row of them, from the left, and each one of the row
unfoldable pub joined : Bool → List Bool → Bool
joined a [] = a
joined a (b ∷ bs) = joined (a && b) bs

pub each : (a : Bool) (bs : List Bool) → joined a bs ≡ true → (j : ℕ) → get_or (a ∷ bs) j true ≡ true
unfolding joined
each a [] e zero = e
each a [] e (suc j) = refl
each a (b ∷ bs) e zero = and_left a b (each (a && b) bs e 0)
each a (b ∷ bs) e (suc zero) = and_right a b (each (a && b) bs e 0)
each a (b ∷ bs) e (suc (suc j)) = each (a && b) bs e (suc j)
