-- The theorems of specs/Theorem.antt on a function and on rows, out of Safe.antt, Exact.antt and Rows.antt.
use mathlib.Core.Path.{◌≡◌, refl, sym, ◌∙◌, ap, ap₂}
use mathlib.Core.Logic.{◌↔◌}
use mathlib.Core.List.{List, [], ◌∷◌}
use Prim.Native.Nat.{ℕ, zero, suc, ◌+◌}
use native.Mathlib.Omega.{arith}
use lib.ListN.{drop}
use lib.Seq.{ext_get_or}
use Rattle.entity.specs.declared.forms.Place.TheVariants.{Reg, Slot}
use Rattle.entity.specs.declared.forms.Edit.TheVariants.{Move, Remat, Espill, Ereload, Misplaced, Nothing}
use Rattle.rules.specs.Function.{Op, edit, inst, Func, func_of, target}
use Rattle.rules.specs.Sweep.{Into, SweptOp, removed, kept}
use Rattle.rules.specs.Brought.{BroughtOn}
use Rattle.run.specs.Swept.{SweptOps, end, then, Removed, IntoSlot, by_move, by_remat}
use Rattle.run.specs.Theorem.{Safe, Exact, Once, SafeRows, ExactRows, OnceRows}
use Rattle.run.proofs.Exact.{wanted_is_brought}
use Rattle.run.proofs.Safe.{safe_walk}
use Rattle.run.proofs.Rows.{rows_swept}

pub safe : Safe
safe f g z M w x st = safe_walk M f g z x st st (record { regs = refl; clock = refl; slots = λ s a. refl })

-- what the sweep made of the operation at position i
swept_at : (f : Func) (b : ℕ) {j : ℕ} {l l' : List Op} → SweptOps f b j l l' → (k i : ℕ) → i ≡ j + k → (o o' : Op) (os os' : List Op) → drop k l ≡ o ∷ os → drop k l' ≡ o' ∷ os' → SweptOp f b i o o'
swept_at f b end zero i q o o' os os' e e' = let z : ◌≡◌ {A = ℕ} 0 1 = cc in absurd (omega arith)
swept_at f b end (suc k) i q o o' os os' e e' = let z : ◌≡◌ {A = ℕ} 0 1 = cc in absurd (omega arith)
swept_at f b (then {i = j} {o = a} {o' = a'} x xs) zero i q o o' os os' e e' =
    let p : i ≡ j = omega arith in
    let eo : o ≡ a = cc in
    let eo' : o' ≡ a' = cc in
    rw (p, eo, eo') x
swept_at f b (then {i = j} x xs) (suc k) i q o o' os os' e e' = swept_at f b xs k i (omega arith) o o' os os' e e'

-- what `target` says of an operation, and what document 01 says of it in words
into_slot : (o : Op) (s : ℕ) → Into (target o) s → IntoSlot o s
into_slot (inst n) s x = absurd x
into_slot (edit (Move (Reg r) p v)) s x = absurd x
into_slot (edit (Move (Slot d) p v)) s x = by_move {p = p} {v = v} (rw x refl)
into_slot (edit (Remat (Reg r) v)) s x = absurd x
into_slot (edit (Remat (Slot d) v)) s x = by_remat {v = v} (rw x refl)
into_slot (edit (Espill d r)) s x = absurd x
into_slot (edit (Ereload r q)) s x = absurd x
into_slot (edit (Misplaced to p)) s x = absurd x
into_slot (edit Nothing) s x = absurd x

slot_into : (o : Op) (s : ℕ) → IntoSlot o s → Into (target o) s
slot_into o s (by_move q) = rw q refl
slot_into o s (by_remat q) = rw q refl

exact_op : (f : Func) (b i : ℕ) (o o' : Op) → SweptOp f b i o o' → (Removed o o' ↔ ((s : ℕ) × IntoSlot o s × (BroughtOn f b (suc i) s → ⊥))) × ((Removed o o' → ⊥) → o' ≡ o)
exact_op f b i o o' (removed s x n q) =
    let r : Removed o o' = (λ e. rw e at x, q) in
    ((λ _. (s, into_slot o s x, λ c. n ((wanted_is_brought f b (suc i) s).1 c)), λ _. r), λ m. absurd (m r))
exact_op f b i o o' (kept k q) =
    ((λ r. absurd (r.0 (sym q ∙ r.1)), λ w. absurd (w.2 ((wanted_is_brought f b (suc i) w.0).0 (k w.0 (slot_into o w.0 w.1))))), λ _. q)

pub exact : Exact
exact f g z b i o o' os os' l l' = exact_op f b i o o' (swept_at f b (z.blocks b) i i (omega arith) o o' os os' l l')

once_op : (f : Func) (b i : ℕ) (o p q : Op) → SweptOp f b i o p → SweptOp f b i o q → p ≡ q
once_op f b i o p q (removed s x n e) (removed s' x' n' e') = e ∙ sym e'
once_op f b i o p q (removed s x n e) (kept k e') = absurd (n (k s x))
once_op f b i o p q (kept k e) (removed s x n e') = absurd (n (k s x))
once_op f b i o p q (kept k e) (kept k' e') = e ∙ sym e'

once_ops : (f : Func) (b : ℕ) {i : ℕ} {os ps qs : List Op} → SweptOps f b i os ps → SweptOps f b i os qs → ps ≡ qs
once_ops f b end end = refl
once_ops f b (then x xs) (then y ys) = ap₂ ◌∷◌ (once_op f b _ _ _ _ x y) (once_ops f b xs ys)

same_func : (g h : Func) → g.blocks ≡ h.blocks → g.succs ≡ h.succs → g ≡ h
same_func g h p q = λ i. record { blocks = p i; succs = q i }

pub once : Once
once f g h z y =
    same_func g h
    (ext_get_or [] g.blocks h.blocks (z.many ∙ sym y.many) (λ b l. once_ops f b (z.blocks b) (y.blocks b)))
    (z.succs ∙ sym y.succs)

pub safe_rows : SafeRows
safe_rows sh places es es' z = safe (func_of sh places es) (func_of sh places es') (rows_swept sh places es es' z)

pub exact_rows : ExactRows
exact_rows sh places es es' z b i j x =
    let w = exact_op (func_of sh places es) b i _ _ (z b i j x) in (
      (λ r. w.0.0 (λ e. r.0 (cc), ap edit r.1), λ y. let r = w.0.1 y in (λ e. r.0 (ap edit e), cc)),
      λ n. let q = w.1 (λ r. n (λ e. r.0 (ap edit e), (cc))) in cc,
    )

pub once_rows : OnceRows
once_rows sh places es es' es'' z y b i j x = let q = once_op (func_of sh places es) b i _ _ _ (z b i j x) (y b i j x) in cc
