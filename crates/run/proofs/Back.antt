-- For `Wanted` and `wanted_at` of rules/specs/Sweep.antt: what is wanted at a position, from what is wanted at the block's end; and at the ends it is the smallest solution.
--     BackAll os A      wanted before all of os, where A is wanted after them
--     wanted_back       what is wanted at a position is `BackAll` of what is wanted at the end
--     end_closed        what is wanted at the ends is closed: what a block wants at its start is wanted at the end of each block that it follows
--     end_least         and within every closed family
--     at_back           the list computed at a position is `BackAll` of the list at the end
use mathlib.Core.Path.{◌≡◌, refl}
use mathlib.Core.Logic.{inl, inr, ⊎_elim, ◌↔◌}
use mathlib.Core.List.{List, [], ◌∷◌}
use Prim.Native.Nat.{ℕ, suc}
use native.Mathlib.Omega.{arith}
use Rattle.rules.specs.Function.{Op, Func, ops_of, next_of, In, Left, target, reads}
use Rattle.rules.specs.Sweep.{Wanted, added, sent, from_next, wanted_before, wanted_at}
use Rattle.run.specs.Swept.{WantedAtEnd}
use Rattle.run.proofs.Lists.{drop_next}
use Rattle.run.proofs.Alike.{Back}
use Rattle.run.proofs.Safe.{back_wanted}
use Rattle.run.proofs.Sets.{before_back}

abbrev pub BackAll : List Op → (ℕ → Type 0) → ℕ → Type 0
BackAll [] A s = A s
BackAll (o ∷ os) A s = Back (target o) (reads o) (BackAll os A) s

back_mono : (o : Op) (A B : ℕ → Type 0) → ((s : ℕ) → A s → B s) → (s : ℕ) → Back (target o) (reads o) A s → Back (target o) (reads o) B s
back_mono o A B h s = ⊎_elim inl (λ w. inr (w.0, h w.0 w.1, w.2))

pub back_all_mono : (os : List Op) (A B : ℕ → Type 0) → ((s : ℕ) → A s → B s) → (s : ℕ) → BackAll os A s → BackAll os B s
back_all_mono [] A B h s a = h s a
back_all_mono (o ∷ os) A B h s a = back_mono o (BackAll os A) (BackAll os B) (back_all_mono os A B h) s a

pub at_back : (os : List Op) (A : List ℕ) (s : ℕ) → In s (wanted_at os A) ↔ BackAll os (λ e. In e A) s
unfolding wanted_at wanted_before
at_back [] A s = (λ h. h, λ h. h)
at_back (o ∷ os) A s =
    let e = before_back (target o) (reads o) (wanted_at os A) s in
    let ih = at_back os A in (
      λ h. back_mono o (λ x. In x (wanted_at os A)) (BackAll os (λ x. In x A)) (λ x. (ih x).0) s (e.0 h),
      λ h. e.1 (back_mono o (BackAll os (λ x. In x A)) (λ x. In x (wanted_at os A)) (λ x. (ih x).1) s h),
    )

module _ (f : Func) where
  -- what is wanted at a position has come one of the three ways
  wanted_inv : {b i s : ℕ} → Wanted f b i s → (o : Op) (os : List Op) → Left f b i (o ∷ os) → Back (target o) (reads o) (Wanted f b (suc i)) s
  wanted_inv (added {o = o'} l a) o os l' = let q : o ≡ o' = cc in rw q (inl a)
  wanted_inv (sent {e = e} {o = o'} l x w) o os l' = let q : o ≡ o' = cc in rw q (inr (e, w, x))
  wanted_inv (from_next l m w) o os l' = let z : ◌≡◌ {A = ℕ} 0 1 = cc in absurd (omega arith)

  end_inv : {b i s : ℕ} → Wanted f b i s → Left f b i [] → WantedAtEnd f b s
  end_inv (added l a) l' = let z : ◌≡◌ {A = ℕ} 0 1 = cc in absurd (omega arith)
  end_inv (sent l x w) l' = let z : ◌≡◌ {A = ℕ} 0 1 = cc in absurd (omega arith)
  end_inv (from_next {t = t} l m w) l' = (t, m, w)

  pub wanted_back : (b : ℕ) (os : List Op) (i : ℕ) → Left f b i os → (s : ℕ) → Wanted f b i s ↔ BackAll os (WantedAtEnd f b) s
  wanted_back b [] i l s = (λ w. end_inv w l, λ w. from_next l w.1 w.2)
  wanted_back b (o ∷ os) i l s =
      let ih = wanted_back b os (suc i) (drop_next (ops_of f b) i o os l) in (
        λ w. back_mono o (Wanted f b (suc i)) (BackAll os (WantedAtEnd f b)) (λ e. (ih e).0) s (wanted_inv w o os l),
        λ w. back_wanted f b i o os l s (back_mono o (BackAll os (WantedAtEnd f b)) (Wanted f b (suc i)) (λ e. (ih e).1) s w),
      )

  pub wanted_at_lem : (A : List ℕ) (b : ℕ) → ((s : ℕ) → In s A ↔ WantedAtEnd f b s) → (os : List Op) (i : ℕ) → Left f b i os → (s : ℕ) → In s (wanted_at os A) ↔ Wanted f b i s
  wanted_at_lem A b ends os i l s =
      let e = at_back os A s in
      let w = wanted_back b os i l s in (
        λ h. w.1 (back_all_mono os (λ x. In x A) (WantedAtEnd f b) (λ x. (ends x).0) s (e.0 h)),
        λ h. e.1 (back_all_mono os (WantedAtEnd f b) (λ x. In x A) (λ x. (ends x).1) s (w.0 h)),
      )

  abbrev pub Closed : (ℕ → ℕ → Type 0) → Type 0
  Closed P = (b t s : ℕ) → In t (next_of f b) → BackAll (ops_of f t) (P t) s → P b s

  pub end_closed : Closed (WantedAtEnd f)
  end_closed b t s m a = (t, m, (wanted_back t (ops_of f t) 0 refl s).1 a)

  wanted_all : (P : ℕ → ℕ → Type 0) → Closed P → {b i s : ℕ} → Wanted f b i s → (os : List Op) → Left f b i os → BackAll os (P b) s
  wanted_all P c (added {o = o} {os = os'} l a) os l' = let q : os ≡ o ∷ os' = cc in rw q (inl a)
  wanted_all P c (sent {b = b} {i = i} {e = e} {o = o} {os = os'} l x w) os l' =
      let q : os ≡ o ∷ os' = cc in
      rw q (inr (e, wanted_all P c w os' (drop_next (ops_of f b) i o os' l), x))
  wanted_all P c (from_next {b = b} {t = t} {s = s} l m w) os l' =
      let q : os ≡ [] = cc in
      rw q (c b t s m (wanted_all P c w (ops_of f t) refl))

  pub end_least : (P : ℕ → ℕ → Type 0) → Closed P → (b s : ℕ) → WantedAtEnd f b s → P b s
  end_least P c b s w = c b w.0 s w.1 (wanted_all P c w.2 (ops_of f w.0) refl)
