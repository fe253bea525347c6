-- For `hand_to` of src/ends.rt: what `spread` of specs/Worklist.antt does to the words and the flags. Assumes nothing.
--     Gave ps v st st'     v was given to each of ps: nothing is lost, each of ps has v, nothing else came, a block that grew waits, the weight did not rise
--     gave                 `spread ps v st` gave v to each of ps
use mathlib.Core.Path.{◌≡◌, refl, sym, ◌∙◌, ap, subst}
use mathlib.Core.Logic.{◌⊎◌, inl, inr, ⊎_elim}
use mathlib.Core.Bool.{Bool, true, false, ◌||◌}
use mathlib.Core.List.{List, [], ◌∷◌}
use Prim.Native.Nat.{ℕ, zero, suc, ◌^◌, ◌≤◌, ◌<◌}
use native.Mathlib.Nat.{le_refl, le_trans, le_of_lt}
use native.Mathlib.Omega.{arith}
use lib.Bits.{bit_or, or_lt, or_add_and, and_le_r}
use lib.ListN.{length, get_or, set, length-set}
use lib.Seq.{get_or-set_same, get_or-set_other}
use borrow.Author.Tests.{eq-eqb, ne_eqb}
use Rattle.laws.specs.Digits.{bit}
use Rattle.laws.specs.Fold.{run}
use Rattle.laws.proofs.Bit.{bit_of_or}
use Rattle.laws.proofs.Cases.{by_eq, by_lt}
use Rattle.rules.specs.Function.{In}
use Rattle.dead_spill_elimination.specs.Worklist.{State, give, spread}
use Rattle.dead_spill_elimination.proofs.Sums.{weight, weight_raise}

-- slot s is in the word x
abbrev pub On : ℕ → ℕ → Type 0
On x s = bit x s ≡ true

-- every set is a word
abbrev pub Words : List ℕ → Type 0
Words X = (b : ℕ) → get_or X b 0 < 2 ^ 64

module _ (v p : ℕ) (st : State) (l w : List ℕ) {x : ℕ} (q : x ≡ get_or st.live p 0) where
  pub give_same : bit_or x v ≡ x → l ≡ st.live → w ≡ st.wait → record { live = l; wait = w } ≡ give v st p
  unfolding give
  give_same e el ew = rw (← q, eq-eqb _ _ e, el, ew)

  pub give_new : (bit_or x v ≡ x → ⊥) → l ≡ set st.live p (bit_or x v) → w ≡ set st.wait p 1 → record { live = l; wait = w } ≡ give v st p
  unfolding give
  give_new e el ew = rw (← q, ne_eqb _ _ e, el, ew)

-- an element after a store: the one stored, or another, which is as it was
pub set_cases : (xs : List ℕ) (p v b : ℕ) → p < length xs → ((b ≡ p) × (get_or (set xs p v) b 0 ≡ v)) ⊎ ((b ≡ p → ⊥) × (get_or (set xs p v) b 0 ≡ get_or xs b 0))
set_cases xs p v b h = by_eq b p (λ e. inl (e, rw e (get_or-set_same xs p v 0 h))) (λ n. inr (n, get_or-set_other xs p b v 0 n))

set_out : (xs : List ℕ) (p v : ℕ) → length xs ≤ p → set xs p v ≡ xs
set_out [] p v h = refl
set_out (x ∷ xs) zero v h = absurd (omega arith)
set_out (x ∷ xs) (suc p) v h = ap (λ (l : List ℕ). x ∷ l) (set_out xs p v (omega arith))

on_or : (x v s : ℕ) → On (bit_or x v) s → On x s ⊎ On v s
on_or x v s h = go (bit x s) (bit v s) (sym (bit_of_or x v s) ∙ h)
  where
    go : (a b : Bool) → (a || b) ≡ true → (a ≡ true) ⊎ (b ≡ true)
    go true b e = inl refl
    go false b e = inr e

or_left : (x v s : ℕ) → On x s → On (bit_or x v) s
or_left x v s h = bit_of_or x v s ∙ rw h

or_right : (x v s : ℕ) → On v s → On (bit_or x v) s
or_right x v s h = bit_of_or x v s ∙ rw h (go (bit x s))
  where
    go : (a : Bool) → (a || true) ≡ true
    go true = refl
    go false = refl

pub record Gave (ps : List ℕ) (v : ℕ) (st st' : State) : Type 0 where
  pub live_len : length st'.live ≡ length st.live
  pub wait_len : length st'.wait ≡ length st.wait
  pub words : Words st'.live
  pub grows : (b s : ℕ) → On (get_or st.live b 0) s → On (get_or st'.live b 0) s
  pub gives : (p s : ℕ) → p < length st.live → In p ps → On v s → On (get_or st'.live p 0) s
  pub only : (b s : ℕ) → On (get_or st'.live b 0) s → On (get_or st.live b 0) s ⊎ (In b ps × On v s)
  pub quiet : (b : ℕ) → get_or st'.wait b 0 ≡ 0 → (get_or st.wait b 0 ≡ 0) × (get_or st'.live b 0 ≡ get_or st.live b 0)
  pub falls : weight (2 ^ 64) st'.live st'.wait ≤ weight (2 ^ 64) st.live st.wait

-- one block, which had all of v or is none of the blocks
gave_same : (p v : ℕ) (st : State) → Words st.live → (p < length st.live → bit_or (get_or st.live p 0) v ≡ get_or st.live p 0) → Gave (p ∷ []) v st st
gave_same p v st w e = record {
  live_len = refl;
  wait_len = refl;
  words = w;
  grows = λ b s h. h;
  gives = λ q s l m h.
      ⊎_elim (λ z. let l' : p < length st.live = omega arith in rw z (subst (λ (x : ℕ). On x s) (e l') (or_right (get_or st.live p 0) v s h))) (λ m'. absurd m') m;
  only = λ b s h. inl h;
  quiet = λ b z. (z, refl);
  falls = le_refl _;
}

-- one block, which grows
gave_new : (p v : ℕ) (st : State) → Words st.live → v < 2 ^ 64 → p < length st.live → p < length st.wait → (bit_or (get_or st.live p 0) v ≡ get_or st.live p 0 → ⊥)
    → Gave (p ∷ []) v st (record { live = set st.live p (bit_or (get_or st.live p 0) v); wait = set st.wait p 1 })
gave_new p v st w hv hl hw n =
    let X : List ℕ = st.live in
    let x : ℕ = get_or X p 0 in
    let y : ℕ = bit_or x v in
    record {
      live_len = length-set X p y;
      wait_len = length-set st.wait p 1;
      words = λ b. ⊎_elim (λ c. rw c.1 (or_lt 64 x v (w p) hv)) (λ c. rw c.1 (w b)) (set_cases X p y b hl);
      grows = λ b s h. ⊎_elim (λ c. rw c.1 (or_left x v s (rw c.0 at h))) (λ c. rw c.1 h) (set_cases X p y b hl);
      gives = λ q s l m h. ⊎_elim (λ z. ap (λ (u : ℕ). bit (get_or (set X p y) u 0) s) z ∙ ap (λ (u : ℕ). bit u s) (get_or-set_same X p y 0 hl) ∙ or_right x v s h) (λ m'. absurd m') m;
      only = λ b s h.
          ⊎_elim
          (λ c. ⊎_elim (λ a. inl (rw c.0 a)) (λ a. inr (inl c.0, a)) (on_or x v s (rw c.1 at h)))
          (λ c. inl (rw c.1 at h))
          (set_cases X p y b hl);
      quiet = λ b z. ⊎_elim (λ c. absurd (omega (arith, c.1))) (λ c. (sym c.1 ∙ z, get_or-set_other X p b y 0 c.0)) (set_cases st.wait p 1 b hw);
      falls = le_of_lt (weight_raise (2 ^ 64) X st.wait p y p hl hw (w p) (omega (arith, n, or_add_and x v, and_le_r x v)));
    }

gave_one : (p v : ℕ) (st : State) → Words st.live → v < 2 ^ 64 → length st.live ≡ length st.wait → Gave (p ∷ []) v st (give v st p)
gave_one p v st w hv e =
    by_eq (bit_or (get_or st.live p 0) v) (get_or st.live p 0)
    (λ q. rw (← give_same v p st st.live st.wait refl q refl refl) (gave_same p v st w (λ l. q)))
    (λ q.
    by_lt p (length st.live)
    (λ l. rw (← give_new v p st _ _ refl q refl refl) (gave_new p v st w hv l (omega arith) q))
    (λ l.
    let a : st.live ≡ set st.live p (bit_or (get_or st.live p 0) v) = sym (set_out st.live p _ l) in
    let b : st.wait ≡ set st.wait p 1 = sym (set_out st.wait p 1 (omega arith)) in
    rw (← give_new v p st st.live st.wait refl q a b) (gave_same p v st w (λ m. absurd (omega arith)))))

gave_none : (v : ℕ) (st : State) → Words st.live → Gave [] v st st
gave_none v st w = record {
  live_len = refl;
  wait_len = refl;
  words = w;
  grows = λ b s h. h;
  gives = λ q s l m h. absurd m;
  only = λ b s h. inl h;
  quiet = λ b z. (z, refl);
  falls = le_refl _;
}

gave_more : (p : ℕ) (ps : List ℕ) (v : ℕ) (st st₁ st₂ : State) → Gave (p ∷ []) v st st₁ → Gave ps v st₁ st₂ → Gave (p ∷ ps) v st st₂
gave_more p ps v st st₁ st₂ g h = record {
  live_len = h.live_len ∙ g.live_len;
  wait_len = h.wait_len ∙ g.wait_len;
  words = h.words;
  grows = λ b s a. h.grows b s (g.grows b s a);
  gives = λ q s l m a. ⊎_elim (λ e. h.grows q s (g.gives q s l (inl e) a)) (λ m'. h.gives q s (rw g.live_len l) m' a) m;
  only = λ b s a.
      ⊎_elim
      (λ a₁. ⊎_elim inl (λ w. inr (⊎_elim inl (λ m. absurd m) w.0, w.1)) (g.only b s a₁))
      (λ w. inr (inr w.0, w.1))
      (h.only b s a);
  quiet = λ b z. let q = h.quiet b z in let r = g.quiet b q.0 in (r.0, q.1 ∙ r.1);
  falls = le_trans h.falls g.falls;
}

pub gave : (ps : List ℕ) (v : ℕ) (st : State) → length st.live ≡ length st.wait → Words st.live → v < 2 ^ 64 → Gave ps v st (spread ps v st)
unfolding spread run
gave [] v st e w hv = gave_none v st w
gave (p ∷ ps) v st e w hv =
    let g = gave_one p v st w hv e in
    gave_more p ps v st (give v st p) (spread ps v (give v st p)) g (gave ps v (give v st p) (g.live_len ∙ e ∙ sym g.wait_len) g.words hv)
