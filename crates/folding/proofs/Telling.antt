-- `tell`, `told_with` and `with_reuse` of src/lib.rt: what is told of an instruction's operands, row by row. Assumes nothing.
use mathlib.Core.Path.{◌≡◌, refl, sym, ap, ◌∙◌}
use mathlib.Core.Bool.{Bool, true, false, ◌||◌, or-false, or_assoc}
use mathlib.Core.List.{List, [], ◌∷◌, ◌++◌, map, map-append}
use Prim.Native.Nat.{ℕ, zero, suc, ◌+◌, ◌-◌, ◌≤◌}
use native.Mathlib.Nat.{add-zero}
use native.Mathlib.Omega.{arith}
use lib.Dec.{eqb}
use Rattle.laws.specs.Lists.{any, from}
use Rattle.laws.proofs.Cases.{eqb_same}
use Rattle.bits.specs.Sets.{has, set_of}
use Rattle.bits.specs.declared.sets.NumberSet.{NumberSet}
use Rattle.bits.proofs.Members.{has_set_of, set_of_same}
use Rattle.entity.specs.declared.numbers.OperandIndex.{OperandIndex}
use Rattle.entity.specs.declared.forms.Constraint.{Constraint}
use Rattle.entity.specs.declared.forms.Constraint.TheVariants.{Class, Fixed, Reuse}
use Rattle.rules.specs.Sheet.{Sheet, OpRow, is_early}
use Rattle.table.specs.View.{op_row}
use Rattle.table.specs.declared.index.Range.{Range}
use Rattle.folding.specs.declared.Told.{Told}
use Rattle.folding.specs.Folds.{reuses, may_fold, told, ops_in}

-- ---- one row

not_reused : (c : Constraint) → ((n : OperandIndex) → c ≡ Reuse n → ⊥) → (k : ℕ) → reuses k c ≡ false
not_reused (Class n) h k = refl
not_reused (Fixed r) h k = refl
not_reused (Reuse n) h k = absurd (h n refl)

pub no_reuse : {s : NumberSet} (c : Constraint) → ((n : OperandIndex) → c ≡ Reuse n → ⊥) → (p : ℕ → Bool) → s ≡ set_of p → s ≡ set_of (λ k. p k || reuses k c)
no_reuse c h p e = e ∙ set_of_same p (λ k. p k || reuses k c) (λ k l. rw (not_reused c h k) (sym (or-false (p k))))

pub one_reuse : (s : NumberSet) {x : NumberSet} {c : Constraint} {n : OperandIndex} → c ≡ Reuse n → x ≡ set_of (λ k. has s k || eqb k n.0) → (p : ℕ → Bool) → s ≡ set_of p → x ≡ set_of (λ k. p k || reuses k c)
one_reuse s {x} {c} {n} q z p e =
    z
    ∙ set_of_same (λ k. has s k || eqb k n.0) (λ k. p k || reuses k c)
    (λ k l. rw (e, has_set_of p k l, q, eqb_same k n.0 n.0 k (λ u. sym u) (λ u. sym u)))

any_more : {A : Type 0} (f : A → Bool) (l : List A) (x : A) → any f (l ++ (x ∷ [])) ≡ (any f l || f x)
any_more f [] x = or-false (f x)
any_more f (y ∷ l) x = rw (any_more f l x) (sym (or_assoc (f y) (any f l) (f x)))

-- a test or another, as it was taken
pub or_first : {a x : Bool} (b : Bool) → a ≡ true → x ≡ a → x ≡ (a || b)
or_first b h e = e ∙ rw h

pub or_second : {a b x y : Bool} → a ≡ false → y ≡ b → x ≡ y → x ≡ (a || b)
or_second h q e = rw h (e ∙ q)

-- what is told with one more
pub told_more : (sh : Sheet) {past : Told} (o : OpRow) (os : List OpRow) {r : NumberSet} {e f : Bool} → past ≡ told sh os
    → ((p : ℕ → Bool) → past.reused ≡ set_of p → r ≡ set_of (λ k. p k || reuses k o.constraint)) → e ≡ (past.early || is_early o.kind) → f ≡ (past.folds || may_fold sh o)
    → record { reused = r; early = e; folds = f } ≡ told sh (os ++ (o ∷ []))
unfolding told
told_more sh o os {r} {e} {f} q a b c =
    let x : r ≡ set_of (λ k. any (λ o. reuses k o.constraint) (os ++ (o ∷ []))) =
    a (λ k. any (λ o. reuses k o.constraint) os) (ap (λ (x : Told). x.reused) q)
    ∙ set_of_same (λ k. any (λ o. reuses k o.constraint) os || reuses k o.constraint) (λ k. any (λ o. reuses k o.constraint) (os ++ (o ∷ [])))
    (λ k l. sym (any_more (λ o. reuses k o.constraint) os o)) in
    let y : e ≡ any (λ o. is_early o.kind) (os ++ (o ∷ [])) = b ∙ ap (λ (x : Told). x.early || is_early o.kind) q ∙ sym (any_more (λ o. is_early o.kind) os o) in
    let z : f ≡ any (may_fold sh) (os ++ (o ∷ [])) = c ∙ ap (λ (x : Told). x.folds || may_fold sh o) q ∙ sym (any_more (may_fold sh) os o) in
    rw (x, y, z)

-- ---- row after row

pub from_more : (a n : ℕ) → from a (suc n) ≡ from a n ++ ((a + n) ∷ [])
unfolding from
from_more a zero = rw (add-zero a)
from_more a (suc n) = let e : suc a + n ≡ a + suc n = omega arith in ap (λ (l : List ℕ). a ∷ l) (from_more (suc a) n ∙ rw e)

pub map_more : {A : Type 0} (f : ℕ → A) (a n : ℕ) → map f (from a (suc n)) ≡ map f (from a n) ++ (f (a + n) ∷ [])
map_more f a n = ap (map f) (from_more a n) ∙ map-append f (from a n) ((a + n) ∷ [])

pub told_none : (sh : Sheet) (a : ℕ) {s : NumberSet} → s ≡ set_of (λ k. false) → record { reused = s; early = false; folds = false } ≡ told sh (map (op_row sh) (from a (a - a)))
unfolding told from
told_none sh a e = let z : a - a ≡ 0 = omega arith in rw (z, e)

pub told_next : (sh : Sheet) (a n : ℕ) {x y : Told} → a ≤ n → x ≡ told sh (map (op_row sh) (from a (n - a)))
    → ((os : List OpRow) → x ≡ told sh os → y ≡ told sh (os ++ (op_row sh n ∷ []))) → y ≡ told sh (map (op_row sh) (from a (n + 1 - a)))
told_next sh a n h e q =
    let z : n + 1 - a ≡ suc (n - a) = omega arith in
    let u : a + (n - a) ≡ n = omega arith in
    rw z (q (map (op_row sh) (from a (n - a))) e ∙ ap (told sh) (sym (map_more (op_row sh) a (n - a) ∙ rw u)))

pub told_all : (sh : Sheet) (r : Range) (n : ℕ) {x : Told} → r.from ≤ n → n - r.from ≤ r.to - r.from → r.to ≤ n → x ≡ told sh (map (op_row sh) (from r.from (n - r.from))) → x ≡ told sh (ops_in sh r)
told_all sh r n a b c e = let z : r.to - r.from ≡ n - r.from = omega arith in rw z e
