-- For the sweep's safety (specs/Theorem.antt): over a walk, the run with the edits before the sweep and the run with those after it agree.
use mathlib.Core.Path.{◌≡◌, refl, ap}
use mathlib.Core.Logic.{⊎_elim}
use mathlib.Core.List.{List, [], ◌∷◌, ◌++◌}
use Prim.Native.Nat.{ℕ, suc}
use Rattle.rules.specs.Function.{Op, Func, ops_of, In, Left, IsWalk, stop, next, along, target, reads}
use Rattle.rules.specs.Sweep.{Wanted, added, sent, from_next, SweptOp, removed, kept}
use Rattle.run.specs.Swept.{SweptOps, end, then, Swept}
use Rattle.rules.specs.Model.{State, Machine, step, steps, Agree, done, each}
use Rattle.run.proofs.Lists.{drop_next, start}
use Rattle.run.proofs.Alike.{Back, Alike, alike_less, step_alike, gone_alike, reads_back}

pub back_wanted : (f : Func) (b i : ℕ) (o : Op) (os : List Op) → Left f b i (o ∷ os) → (s : ℕ) → Back (target o) (reads o) (Wanted f b (suc i)) s → Wanted f b i s
back_wanted f b i o os l s = ⊎_elim (λ a. added l a) (λ w. sent l w.2 w.1)

module _ (M : Machine) (f g : Func) where
  -- what is shown of one step: what the second run reads agrees, and what is wanted after it
  abbrev Stepped : ℕ → ℕ → Op → Op → State → State → Type 0
  Stepped b i o o' st st' = ((s : ℕ) → In s (reads o') → st.slots s ≡ st'.slots s) × Alike (Wanted f b (suc i)) (step M o st) (step M o' st')

  safe_op : (b i : ℕ) (o o' : Op) (os : List Op) (st st' : State) → SweptOp f b i o o' → Left f b i (o ∷ os) → Alike (Wanted f b i) st st' → Stepped b i o o' st st'
  safe_op b i o o' os st st' (removed s x n q) l h =
      let h' = alike_less (back_wanted f b i o os l) h in
      rw q (λ s x. absurd x, gone_alike M (Wanted f b (suc i)) st st' o s x n h')
  safe_op b i o o' os st st' (kept k q) l h =
      let h' = alike_less (back_wanted f b i o os l) h in
      rw q (λ s x. h'.slots s (reads_back (Wanted f b (suc i)) (target o) (reads o) s k x), step_alike M (Wanted f b (suc i)) st st' o h')

  -- the rest of a block, with what follows it
  module _ (b : ℕ) (rs rs' : List Op) (k : (i : ℕ) → Left f b i [] → (st st' : State) → Alike (Wanted f b i) st st' → Agree (steps M rs st) (steps M rs' st')) where
    safe_ops : {i : ℕ} {os os' : List Op} → SweptOps f b i os os' → Left f b i os → (st st' : State) → Alike (Wanted f b i) st st' → Agree (steps M (os ++ rs) st) (steps M (os' ++ rs') st')
    unfolding steps
    safe_ops (end {i = i}) l st st' h = k i l st st' h
    safe_ops (then {i = i} {o = o} {o' = o'} {os = os} x xs) l st st' h =
        let w = safe_op b i o o' os st st' x l h in
        each (λ u. ap (λ r. r u) h.regs) w.0 (safe_ops xs (drop_next (ops_of f b) i o os l) (step M o st) (step M o' st') w.1)

  -- the state after the last operation
  safe_end : (A : ℕ → Type 0) (st st' : State) → Alike A st st' → Agree (steps M [] st) (steps M [] st')
  unfolding steps
  safe_end A st st' h = each (λ u. ap (λ r. r u) h.regs) (λ s x. absurd x) done

  pub safe_walk : Swept f g → {w : List ℕ} → IsWalk f w → (st st' : State) → Alike (Wanted f (start w) 0) st st' → Agree (steps M (along f w) st) (steps M (along g w) st')
  unfolding along
  safe_walk z (stop {b = b}) st st' h = safe_ops b [] [] (λ i l st st' h. safe_end (Wanted f b i) st st' h) (z.blocks b) refl st st' h
  safe_walk z (next {b = b} {t = t} {w = w} m x) st st' h =
      let ih = safe_walk z x in
      safe_ops b (along f (t ∷ w)) (along g (t ∷ w)) (λ i l st st' h. ih st st' (alike_less (λ s y. from_next l m y) h)) (z.blocks b) refl st st' h
