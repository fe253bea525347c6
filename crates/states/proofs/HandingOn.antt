-- Handing on: `hand_to` and `hand_on` of src/handed.rt leave in the table what the rules `hand_to` and `hand_on` say (`Lies`). Assumes nothing.
use mathlib.Core.Path.{◌≡◌, refl, sym, ap, ap₂, ◌∙◌}
use mathlib.Core.Bool.{Bool, true, false, cond, ◌&&◌, ◌||◌, or_comm}
use mathlib.Core.List.{List, [], ◌∷◌, ◌++◌, flat_map}
use mathlib.Core.Option.{Option, none, some, Option-elim}
use Prim.Native.Nat.{ℕ, zero, suc, ◌+◌, ◌≤◌, ◌<◌}
use native.Mathlib.Omega.{arith}
use lib.ListN.{length, get_or, set, take}
use lib.Seq.{take_all}
use lib.Dec.{eqb}
use borrow.Author.Tests.{ne_eqb, not-true, not-false, ltb-true}
use Rattle.laws.proofs.Cases.{by_bool}
use Rattle.table.proofs.Loops.{and_left, and_right, and_both, all_at}
use Rattle.laws.specs.Fold.{run}
use Rattle.laws.specs.Lists.{all, any, keep, is_in}
use Rattle.table.specs.Sheet.{sheet_in}
use Rattle.table.specs.Index.{Ready}
use Rattle.rules.proofs.Refusals.{all_named_lem, each_named}
use Rattle.rules.specs.Accept.{block_exists}
use Rattle.laws.proofs.Words.{has_words_of}
use Rattle.bits.specs.Sets.{has, set_of, set_limit}
use Rattle.bits.specs.declared.sets.NumberSet.{NumberSet}
use Rattle.rules.specs.Sheet.{Sheet, ListRow, list_at, block_count, succs_of}
use Rattle.rules.specs.Record.{Record, Known}
use Rattle.rules.specs.Forward.{Handed, skips, hand_to, hand_on, first_state, same_known}
use Rattle.states.specs.Layout.{state_at}
use Rattle.states.specs.States.{known_at, is_set, state_in, Sets, sole_in, met_in, Meets, Lies}
use Rattle.states.proofs.Spans.{run_take}
use Rattle.states.proofs.Cells.{roomy_same, states_at}

-- one more block waits
pub waits : (b : ℕ) (w w' : NumberSet) (l : List ℕ) → w' ≡ set_of (λ k. has w k || eqb k b) → ((c : ℕ) → c < set_limit → has w c ≡ is_in c l)
    → (c : ℕ) → c < set_limit → has w' c ≡ is_in c (b ∷ l)
unfolding is_in
waits b w w' l e f c u =
    ap (λ (x : NumberSet). has x c) e ∙ has_words_of 4 (λ k. has w k || eqb k b) c u
    ∙ ap (λ (t : Bool). t || eqb c b) (f c u) ∙ or_comm (any (eqb c) l) (eqb c b)

pub waits_below : (n b : ℕ) (l : List ℕ) → b < n → ((c : ℕ) → n ≤ c → is_in c l ≡ false) → (c : ℕ) → n ≤ c → is_in c (b ∷ l) ≡ false
unfolding is_in
waits_below n b l h f c u = rw (ne_eqb c b (λ q. omega arith)) (f c u)

module _ (sh : Sheet) (n a b : ℕ) (rec : Record) (s s' : List ℕ) (w w' : NumberSet) (h : Handed) (below : b < n) (lies : Lies n s w h) where
  known : get_or h.states b none ≡ state_in s b
  known = ap (λ (x : List (Option Known)). get_or x b none) (sym lies.are) ∙ states_at s n b below

  pub hand_first : (sole : Bool) → is_set s b ≡ false → Sets s s' b (first_state sh (sole_in sole b) rec)
      → first_state sh (sole_in sole b) rec ≡ first_state sh (succs_of sh a) rec → w' ≡ set_of (λ k. has w k || eqb k b)
      → Lies n s' w' (hand_to sh a rec h b)
  unfolding hand_to state_in Option-elim
  hand_first sole e sets first v =
      let x : get_or h.states b none ≡ none = known ∙ ap (λ (z : Bool). cond z (some (known_at s (state_at b))) none) e in
      rw x (record {
        room = roomy_same sets.long lies.room;
        are = sets.are n lies.room ∙ ap₂ (λ (y : List (Option Known)) (k : Known). set y b (some k)) lies.are first;
        wait = waits b w w' h.waiting v lies.wait;
        below = waits_below n b h.waiting below lies.below;
      })

  pub hand_met : (r : Bool) → is_set s b ≡ true → (is_set s b ≡ true → Meets sh rec s s' b r)
      → (r ≡ true → w' ≡ set_of (λ k. has w k || eqb k b)) → (r ≡ false → w' ≡ w) → Lies n s' w' (hand_to sh a rec h b)
  unfolding hand_to state_in Option-elim
  hand_met r e t y' n' =
      let x : get_or h.states b none ≡ some (known_at s (state_at b)) = known ∙ ap (λ (z : Bool). cond z (some (known_at s (state_at b))) none) e in
      let m = t e in
      rw x (record {
        room = roomy_same m.sets.long lies.room;
        are = m.sets.are n lies.room ∙ ap (λ (y : List (Option Known)). set y b (some (met_in sh rec s b))) lies.are;
        wait = by_bool r
            (λ y.
            let z : same_known sh (known_at s (state_at b)) (met_in sh rec s b) ≡ false = not-true (same_known sh (known_at s (state_at b)) (met_in sh rec s b)) (sym m.went ∙ y) in
            rw z (waits b w w' h.waiting (y' y) lies.wait))
            (λ y.
            let z : same_known sh (known_at s (state_at b)) (met_in sh rec s b) ≡ true = not-false (same_known sh (known_at s (state_at b)) (met_in sh rec s b)) (sym m.went ∙ y) in
            rw z (λ c u. ap (λ (q : NumberSet). has q c) (n' y) ∙ lies.wait c u));
        below = go (same_known sh (known_at s (state_at b)) (met_in sh rec s b));
      })
    where
      go : (t : Bool) (c : ℕ) → n ≤ c → is_in c (cond t h.waiting (b ∷ h.waiting)) ≡ false
      go true c u = lies.below c u
      go false c u = waits_below n b h.waiting below lies.below c u

-- a successor is the sole one, or there are several
pub one_of : (sh : Sheet) (s : Record) (l : List ℕ) (k : ℕ) → k < length l → first_state sh (sole_in (eqb (length l) 1) (get_or l k 0)) s ≡ first_state sh l s
unfolding first_state skips
one_of sh s [] k h = absurd (omega arith)
one_of sh s (x ∷ []) zero h = refl
one_of sh s (x ∷ []) (suc k) h = absurd (omega arith)
one_of sh s (x ∷ y ∷ l) k h =
    let e : eqb (length (x ∷ y ∷ l)) 1 ≡ false = ne_eqb (length (x ∷ y ∷ l)) 1 (λ q. omega arith) in
    simp e

-- ---- the successors exist

all_append : (q : ℕ → Bool) (xs ys : List ℕ) → all q xs ≡ true → all q ys ≡ true → all q (xs ++ ys) ≡ true
all_append q [] ys e f = f
all_append q (x ∷ xs) ys e f = and_both (q x) (all q (xs ++ ys)) (and_left (q x) (all q xs) e) (all_append q xs ys (and_right (q x) (all q xs) e) f)

all_listed : (sh : Sheet) (p : ListRow → Bool) (q : ℕ → Bool) (rows : List ListRow) (a : ℕ) → all (λ s. p s && all q s.list) rows ≡ true
    → all q (list_at sh rows a) ≡ true
unfolding list_at keep flat_map
all_listed sh p q [] a e = refl
all_listed sh p q (r ∷ rows) a e =
    let rest : all q (list_at sh rows a) ≡ true = all_listed sh p q rows a (and_right (p r && all q r.list) (all (λ s. p s && all q s.list) rows) e) in
    let own : all q r.list ≡ true = and_right (p r) (all q r.list) (and_left (p r && all q r.list) (all (λ s. p s && all q s.list) rows) e) in
    by_bool (eqb r.at a) (λ t. rw t (all_append q r.list (list_at sh rows a) own rest)) (λ t. rw t rest)

pub succs_exist : (t : List ℕ) → Ready t → (a k : ℕ) → k < length (succs_of (sheet_in t) a) → get_or (succs_of (sheet_in t) a) k 0 < block_count (sheet_in t)
succs_exist t g a k h =
    let sh = sheet_in t in
    ltb-true _ _
    (all_at (block_exists sh) 0 (succs_of sh a)
    (all_listed sh (λ s. block_exists sh s.at) (block_exists sh) sh.succs a (each_named sh (all_named_lem sh g.names)).succs) k h)

-- ---- handing to each successor

pub hand_next : (t : List ℕ) (a k : ℕ) (l : List ℕ) (rec : Record) (s s' : List ℕ) (w w' : NumberSet) (h : Handed) → Ready t → l ≡ succs_of (sheet_in t) a → k < length l
    → Lies (block_count (sheet_in t)) s w (run (hand_to (sheet_in t) a rec) h (take k l))
    → ((sh : Sheet) (n a : ℕ) (h : Handed) → get_or l k 0 < n
    → first_state sh (sole_in (eqb (length l) 1) (get_or l k 0)) rec ≡ first_state sh (succs_of sh a) rec
    → Lies n s w h → Lies n s' w' (hand_to sh a rec h (get_or l k 0)))
    → Lies (block_count (sheet_in t)) s' w' (run (hand_to (sheet_in t) a rec) h (take (k + 1) l))
hand_next t a k l rec s s' w w' h g e u lies step =
    let sh = sheet_in t in
    rw (run_take (hand_to sh a rec) 0 h l k u)
    (step sh (block_count sh) a (run (hand_to sh a rec) h (take k l))
    (rw e (succs_exist t g a k (rw e at u))) (one_of sh rec l k u ∙ ap (λ (x : List ℕ). first_state sh x rec) e) lies)

pub hand_end : (t : List ℕ) (a k : ℕ) (l : List ℕ) (rec : Record) (s : List ℕ) (w : NumberSet) (h : Handed) → l ≡ succs_of (sheet_in t) a → length l ≤ k
    → Lies (block_count (sheet_in t)) s w (run (hand_to (sheet_in t) a rec) h (take k l)) → Lies (block_count (sheet_in t)) s w (hand_on (sheet_in t) a rec h)
unfolding hand_on
hand_end t a k l rec s w h e u lies = rw (← e) (rw (take_all k l u) at lies)
