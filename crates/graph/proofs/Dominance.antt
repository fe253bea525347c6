-- Dominance, by the climb from block to idom. Assumes nothing.
use mathlib.Core.Path.{◌≡◌, refl, sym, ap, ◌∙◌}
use mathlib.Core.Bool.{Bool, false, ◌&&◌, ◌||◌, or-false}
use mathlib.Core.Option.{Option, none, some, Option-elim}
use Prim.Native.Nat.{ℕ, zero, suc, ◌≤◌, ◌<◌}
use native.Mathlib.Omega.{arith}
use lib.Dec.{eqb, ltb}
use borrow.Author.Tests.{lt-ltb, le-ltb, eq-eqb, ne_eqb}
use Rattle.laws.proofs.Cases.{by_lt, by_eq}
use Rattle.std.specs.Prelude.{Some, None}
use Rattle.std.specs.Prelude as Code
use Rattle.entity.specs.declared.numbers.Block.{Block}
use Rattle.rules.specs.Sheet.{Sheet, block_row}
use Rattle.rules.specs.Forward.{climbs, dominates}
use Rattle.table.specs.View.{block_found}

abbrev number_of : Code.Option Block → ℕ
number_of (Some b) = b.0
number_of None = 0

-- an idom by the code's answer
pub found : (o : Option ℕ) (i : ℕ) → Some (record { 0 = i }) ≡ block_found o → o ≡ some i
unfolding block_found
found none i q = absurd (let z : ◌≡◌ {A = ℕ} 0 1 = cc in omega arith)
found (some j) i q = ap some (sym (ap number_of q))

pub lost : (o : Option ℕ) → None ≡ block_found o → o ≡ none
unfolding block_found
lost none q = refl
lost (some j) q = absurd (let z : ◌≡◌ {A = ℕ} 0 1 = cc in omega arith)

module _ (sh : Sheet) (a : ℕ) where
  -- one step up, where the idom is smaller
  abbrev up : (ℕ → Bool) → ℕ → Option ℕ → Bool
  up f b o = Option-elim o false (λ i. ltb i b && f i)

  up_same : (f g : ℕ → Bool) (b : ℕ) (o : Option ℕ) → ((i : ℕ) → i < b → f i ≡ g i) → up f b o ≡ up g b o
  unfolding Option-elim
  up_same f g b none h = refl
  up_same f g b (some i) h = by_lt i b (λ l. rw (lt-ltb i b l) (h i l)) (λ l. rw (le-ltb i b l))

  none_up : (b : ℕ) (o : Option ℕ) → up (λ i. false) b o ≡ false
  unfolding Option-elim
  none_up b none = refl
  none_up b (some i) = by_lt i b (λ l. rw (lt-ltb i b l)) (λ l. rw (le-ltb i b l))

  -- a climb of b steps is as good as any longer one
  enough : (n m b : ℕ) → b ≤ n → b ≤ m → climbs sh n a b ≡ climbs sh m a b
  unfolding climbs
  enough zero zero b h l = refl
  enough zero (suc m) b h l = sym (ap (λ (x : Bool). eqb a b || x) (up_same (climbs sh m a) (λ i. false) b (block_row sh b).idom (λ i u. absurd (omega arith)) ∙ none_up b (block_row sh b).idom) ∙ or-false (eqb a b))
  enough (suc n) zero b h l = ap (λ (x : Bool). eqb a b || x) (up_same (climbs sh n a) (λ i. false) b (block_row sh b).idom (λ i u. absurd (omega arith)) ∙ none_up b (block_row sh b).idom) ∙ or-false (eqb a b)
  enough (suc n) (suc m) b h l = ap (λ (x : Bool). eqb a b || x) (up_same (climbs sh n a) (climbs sh m a) b (block_row sh b).idom (λ i u. enough n m i (omega arith) (omega arith)))

  -- THE STEP
  pub dominates_step : (b : ℕ) → dominates sh a b ≡ (eqb a b || up (dominates sh a) b (block_row sh b).idom)
  unfolding dominates climbs
  dominates_step zero = sym (ap (λ (x : Bool). eqb a 0 || x) (up_same (dominates sh a) (λ i. false) 0 (block_row sh 0).idom (λ i u. absurd (omega arith)) ∙ none_up 0 (block_row sh 0).idom) ∙ or-false (eqb a 0))
  dominates_step (suc b) = ap (λ (x : Bool). eqb a (suc b) || x) (up_same (climbs sh b a) (dominates sh a) (suc b) (block_row sh (suc b)).idom (λ i u. enough b i i (omega arith) (omega arith)))

  -- from a block below a no climb leads to a
  climbs_below : (n b : ℕ) → b < a → climbs sh n a b ≡ false
  unfolding climbs
  climbs_below zero b h = ne_eqb a b (λ e. omega arith)
  climbs_below (suc n) b h = rw (ne_eqb a b (λ e. omega arith)) (up_same (climbs sh n a) (λ i. false) b (block_row sh b).idom (λ i l. climbs_below n i (omega arith)) ∙ none_up b (block_row sh b).idom)

  -- by the code's answers
  pub dominates_low : (b : ℕ) → b ≤ a → eqb a b ≡ dominates sh a b
  unfolding dominates
  dominates_low b h = by_eq a b (λ e. eq-eqb a b e ∙ sym (dominates_step b ∙ rw (eq-eqb a b e))) (λ d. ne_eqb a b d ∙ sym (climbs_below b b (omega arith)))

  module _ (b : ℕ) (h₀ : a < b) {f : Code.Option Block} (e : f ≡ block_found (block_row sh b).idom) where
    pub dominates_top : f ≡ None → false ≡ dominates sh a b
    unfolding Option-elim
    dominates_top q = sym (dominates_step b ∙ rw (ne_eqb a b (λ e'. omega arith), lost (block_row sh b).idom (sym q ∙ e)))

    pub dominates_up : (i : ℕ) → f ≡ Some (record { 0 = i }) → i < b → dominates sh a i ≡ dominates sh a b
    unfolding Option-elim
    dominates_up i q h = sym (dominates_step b ∙ rw (ne_eqb a b (λ e'. omega arith), found (block_row sh b).idom i (sym q ∙ e), lt-ltb i b h))

    pub dominates_no : (i : ℕ) → f ≡ Some (record { 0 = i }) → b ≤ i → false ≡ dominates sh a b
    unfolding Option-elim
    dominates_no i q h = sym (dominates_step b ∙ rw (ne_eqb a b (λ e'. omega arith), found (block_row sh b).idom i (sym q ∙ e), le-ltb i b h))
