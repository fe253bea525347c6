-- For `wanted_before` of rules/specs/Sweep.antt, lists of slots as sets: what the computing form of the sweep does to them.
--     is_in_lem           the test of a list is membership
--     before_back     the list computed before an operation is `Back` of the list after it
use mathlib.Core.Path.{◌≡◌, refl}
use mathlib.Core.Logic.{◌⊎◌, inl, inr, ⊎_elim, ◌↔◌}
use mathlib.Core.Bool.{Bool, true, false, cond, not, ◌||◌}
use mathlib.Core.List.{List, [], ◌∷◌}
use Prim.Native.Nat.{ℕ}
use native.Mathlib.Omega.{arith}
use lib.Dec.{eqb}
use borrow.Author.Tests.{eqb-true, eq-eqb}
use Rattle.laws.specs.Fold.{run}
use Rattle.laws.specs.Lists.{keep, is_in}
use Rattle.rules.specs.Function.{In, Target, into, over}
use Rattle.rules.specs.Sweep.{Sends, moves, stays, with, with_all, without_all, wanted_by}
use Rattle.run.proofs.Alike.{Back}

pub or_true : (a b : Bool) → (a || b ≡ true) ↔ ((a ≡ true) ⊎ (b ≡ true))
or_true true b = (λ e. inl refl, λ e. refl)
or_true false b = (inr, ⊎_elim (λ e. let z : ◌≡◌ {A = ℕ} 0 1 = cc in absurd (omega arith)) (λ e. e))

pub is_in_lem : (s : ℕ) (A : List ℕ) → (is_in s A ≡ true) ↔ In s A
unfolding is_in
is_in_lem s [] = (λ e. let z : ◌≡◌ {A = ℕ} 0 1 = cc in absurd (omega arith), λ h. absurd h)
is_in_lem s (x ∷ A) =
    let e = or_true (eqb s x) (is_in s A) in
    let ih = is_in_lem s A in (
      λ h. ⊎_elim (λ a. inl (eqb-true s x a)) (λ a. inr (ih.0 a)) (e.0 h),
      ⊎_elim (λ a. e.1 (inl (eq-eqb s x a))) (λ a. e.1 (inr (ih.1 a))),
    )

keep_in : (f : ℕ → Bool) (A : List ℕ) (s : ℕ) → In s (keep f A) ↔ (In s A × (f s ≡ true))
unfolding keep
keep_in f [] s = (λ h. absurd h, λ h. h.0)
keep_in f (x ∷ A) s = go (f x) refl (keep_in f A s)
  where
    go : (c : Bool) → f x ≡ c → In s (keep f A) ↔ (In s A × (f s ≡ true)) → In s (cond c (x ∷ keep f A) (keep f A)) ↔ (In s (x ∷ A) × (f s ≡ true))
    go true p ih = (⊎_elim (λ e. (inl e, rw e p)) (λ y. (inr (ih.0 y).0, (ih.0 y).1)), λ h. ⊎_elim inl (λ y. inr (ih.1 (y, h.1))) h.0)
    go false p ih = (
      λ y. (inr (ih.0 y).0, (ih.0 y).1),
      λ h. ⊎_elim (λ e. let t : f x ≡ true = rw e at h.1 in let z : ◌≡◌ {A = ℕ} 0 1 = cc in absurd (omega arith)) (λ y. ih.1 (y, h.1)) h.0,
    )

with_in : (q : ℕ) (A : List ℕ) (s : ℕ) → In s (with q A) ↔ ((s ≡ q) ⊎ In s A)
unfolding with
with_in q A s = go (is_in q A) (is_in_lem q A).0
  where
    go : (c : Bool) → (c ≡ true → In q A) → In s (cond c A (q ∷ A)) ↔ ((s ≡ q) ⊎ In s A)
    go true h = (inr, ⊎_elim (λ e. rw e (h refl)) (λ y. y))
    go false h = (λ y. y, λ y. y)

pub with_all_in : (qs A : List ℕ) (s : ℕ) → In s (with_all qs A) ↔ (In s qs ⊎ In s A)
unfolding with_all run
with_all_in [] A s = (inr, ⊎_elim (λ h. absurd h) (λ h. h))
with_all_in (q ∷ qs) A s =
    let e = with_in q A s in
    let ih = with_all_in qs (with q A) s in (
      λ h. ⊎_elim (λ x. inl (inr x)) (λ x. ⊎_elim (λ y. inl (inl y)) inr (e.0 x)) (ih.0 h),
      ⊎_elim (⊎_elim (λ x. ih.1 (inr (e.1 (inl x)))) (λ x. ih.1 (inl x))) (λ x. ih.1 (inr (e.1 (inr x)))),
    )

not_in : (c : Bool) (P : Type 0) → (c ≡ true) ↔ P → (not c ≡ true) ↔ (P → ⊥)
not_in true P h = (λ e. let z : ◌≡◌ {A = ℕ} 0 1 = cc in absurd (omega arith), λ n. absurd (n (h.0 refl)))
not_in false P h = (λ _ p. let t : false ≡ true = h.1 p in let z : ◌≡◌ {A = ℕ} 0 1 = cc in absurd (omega arith), λ _. refl)

without_all_in : (ds A : List ℕ) (s : ℕ) → In s (without_all ds A) ↔ ((In s ds → ⊥) × In s A)
unfolding without_all
without_all_in ds A s =
    let k = keep_in (λ x. not (is_in x ds)) A s in
    let n = not_in (is_in s ds) (In s ds) (is_in_lem s ds) in
    (λ h. (n.0 (k.0 h).1, (k.0 h).0), λ h. k.1 (h.1, n.1 h.0))

module _ (rs A : List ℕ) (s : ℕ) where
  -- an operation that stays
  over_back : (ds : List ℕ) → In s (with_all rs (without_all ds A)) ↔ Back (over ds) rs (λ e. In e A) s
  over_back ds =
      let u = with_all_in rs (without_all ds A) s in
      let d = without_all_in ds A s in (
        λ h. ⊎_elim inl (λ x. let w = d.0 x in inr (s, w.1, stays w.0 refl)) (u.0 h),
        λ h. u.1 (⊎_elim inl (λ w. inr (d.1 (go w.0 w.1 w.2))) h),
      )
    where
      go : (e : ℕ) → In e A → Sends (over ds) rs e s → (In s ds → ⊥) × In s A
      go e a (moves m) = absurd m
      go e a (stays n q) = rw q (n, a)

  module _ (d : ℕ) where
    moved_of : (e : ℕ) → In e A → Sends (into d) rs e s → In s (with_all rs (without_all (d ∷ []) A))
    moved_of e a (moves m) = (with_all_in rs (without_all (d ∷ []) A) s).1 (inl m.1)
    moved_of e a (stays n p) = (with_all_in rs (without_all (d ∷ []) A) s).1 (inr (rw p ((without_all_in (d ∷ []) A e).1 (⊎_elim n (λ x. x), a))))

    unmoved_of : (In d A → ⊥) → (e : ℕ) → In e A → Sends (into d) rs e s → In s A
    unmoved_of n e a (moves m) = absurd (n (rw m.0 at a))
    unmoved_of n e a (stays m p) = rw p a

    -- an edit into slot d, where d is wanted and where it is not: c is the test of that
    into_back : (c : Bool) → (c ≡ true) ↔ In d A → In s (cond c (with_all rs (without_all (d ∷ []) A)) A) ↔ Back (into d) rs (λ e. In e A) s
    into_back true h = (
      λ y.
          ⊎_elim (λ e. inr (d, h.0 refl, moves (refl, e))) (λ x. let w = (without_all_in (d ∷ []) A s).0 x in inr (s, w.1, stays (λ e. w.0 (inl e)) refl))
          ((with_all_in rs (without_all (d ∷ []) A) s).0 y),
      ⊎_elim (λ y. absurd y) (λ w. moved_of w.0 w.1 w.2),
    )
    into_back false h =
        let n : In d A → ⊥ = λ y. let t : false ≡ true = h.1 y in let z : ◌≡◌ {A = ℕ} 0 1 = cc in absurd (omega arith) in
        (λ y. inr (s, y, stays (λ e. n (rw e at y)) refl), ⊎_elim (λ y. absurd y) (λ w. unmoved_of n w.0 w.1 w.2))

pub before_back : (t : Target) (rs A : List ℕ) (s : ℕ) → In s (wanted_by t rs A) ↔ Back t rs (λ e. In e A) s
unfolding wanted_by
before_back (into d) rs A s = into_back rs A s d (is_in d A) (is_in_lem d A)
before_back (over ds) rs A s = over_back rs A s ds
