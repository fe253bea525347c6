-- The states that the levels start with: src/starts.rt does what the rules `forward_start` and `global_start` say. Assumes nothing.
use mathlib.Core.Path.{◌≡◌, refl, sym, ap, ◌∙◌}
use mathlib.Core.Bool.{Bool, true, false, cond, ◌&&◌, ◌||◌, and-false, or-false}
use mathlib.Core.List.{List, map}
use mathlib.Core.Option.{Option, none, some}
use Prim.Native.Nat.{ℕ, ◌+◌, ◌≤◌, ◌<◌}
use native.Mathlib.Omega.{arith}
use lib.ListN.{length, get_or, set}
use lib.Seq.{ext_get_or, get_or-set_same, get_or-set_other}
use lib.Dec.{eqb, leb, ltb}
use borrow.Author.Tests.{lt-ltb, le-ltb, eq-eqb, ne_eqb}
use Rattle.laws.proofs.Cases.{by_eq, by_lt}
use Rattle.laws.proofs.Words.{has_words_of}
use Rattle.laws.specs.Lists.{any, is_in, from}
use Rattle.laws.proofs.Lists.{keep_in}
use Rattle.bits.specs.Sets.{has, set_of}
use Rattle.bits.specs.declared.sets.NumberSet.{NumberSet}
use Rattle.rules.specs.Sheet.{Sheet, block_count, preds_of}
use Rattle.rules.specs.Accept.{is_entry}
use Rattle.rules.specs.Record.{Known, nothing}
use Rattle.rules.specs.Forward.{begins_empty, forward_start, global_start}
use Rattle.table.proofs.Sheets.{members_long, members_at}
use Rattle.states.specs.Layout.{state_at}
use Rattle.states.specs.States.{Roomy, known_at, state_in, states_in, Sets, Lies, Unset, Started, Waits}
use Rattle.states.proofs.Cells.{roomy_same, states_long, states_at}

-- a block's state, where one is set
pub sets_at : {n : ℕ} (s s' : List ℕ) (b : ℕ) (k : Known) → Roomy n s → Sets s s' b k → (c : ℕ) → c < n → state_in s' c ≡ cond (eqb c b) (some k) (state_in s c)
sets_at {n} s s' b k r p c h =
    let m : length (states_in s n) ≡ n = states_long s n in
    sym (states_at s' n c h) ∙ ap (λ (l : List (Option Known)). get_or l c none) (p.are n r)
    ∙ by_eq c b
    (λ q.
    let x : get_or (set (states_in s n) b (some k)) c none ≡ some k = rw q (get_or-set_same (states_in s n) b (some k) none (omega arith)) in
    x ∙ sym (ap (λ (t : Bool). cond t (some k) (state_in s c)) (eq-eqb c b q)))
    (λ d.
    get_or-set_other (states_in s n) b c (some k) none d ∙ states_at s n c h
    ∙ sym (ap (λ (t : Bool). cond t (some k) (state_in s c)) (ne_eqb c b d)))

-- the test of a block below i + 1
next_at : (f : ℕ → Bool) (i c : ℕ) → (c ≡ i → ⊥) → (ltb c (i + 1) && f c) ≡ (ltb c i && f c)
next_at f i c d =
    by_lt c i (λ h. rw (lt-ltb c i h, lt-ltb c (i + 1) (omega arith))) (λ h. rw (le-ltb c i h, le-ltb c (i + 1) (omega arith)))

module _ (f : ℕ → Bool) where
  pub start_none : (n : ℕ) (s : List ℕ) → Unset n s → Started f n s 0
  unfolding state_in
  start_none n s p =
      record {
        room = p.room;
        are = λ b h. ap (λ (t : Bool). cond t (some (known_at s (state_at b))) none) (p.none b) ∙ sym (ap (λ (t : Bool). cond (t && f b) (some nothing) none) (le-ltb b 0 (omega arith)));
      }

  module _ (n i : ℕ) (s s' : List ℕ) (p : Started f n s i) where
    pub start_yes : f i ≡ true → Sets s s' i nothing → Started f n s' (i + 1)
    start_yes e q =
        record {
          room = roomy_same q.long p.room;
          are = λ c h.
              sets_at s s' i nothing p.room q c h
              ∙ by_eq c i
              (λ z.
              let y : (ltb c (i + 1) && f c) ≡ true = rw (z, lt-ltb i (i + 1) (omega arith)) e in
              ap (λ (t : Bool). cond t (some nothing) (state_in s c)) (eq-eqb c i z) ∙ sym (ap (λ (t : Bool). cond t (some nothing) none) y))
              (λ d.
              ap (λ (t : Bool). cond t (some nothing) (state_in s c)) (ne_eqb c i d) ∙ p.are c h
              ∙ sym (ap (λ (t : Bool). cond t (some nothing) none) (next_at f i c d)));
        }

    pub start_no : f i ≡ false → Started f n s (i + 1)
    start_no e =
        record {
          room = p.room;
          are = λ c h.
              p.are c h
              ∙ ap (λ (t : Bool). cond t (some nothing) none)
              (by_eq c i (λ z. rw (z, e, and-false (ltb i i), and-false (ltb i (i + 1)))) (λ d. sym (next_at f i c d)));
        }

  pub start_end : (n : ℕ) (s : List ℕ) → Started f n s n → states_in s n ≡ map (λ b. cond (f b) (some nothing) none) (from 0 n)
  start_end n s p =
      ext_get_or none (states_in s n) (map (λ b. cond (f b) (some nothing) none) (from 0 n)) (states_long s n ∙ sym (members_long (λ b. cond (f b) (some nothing) none) n))
      (λ c u.
      let l : length (states_in s n) ≡ n = states_long s n in
      states_at s n c (omega arith) ∙ p.are c (omega arith)
      ∙ ap (λ (t : Bool). cond (t && f c) (some nothing) none) (lt-ltb c n (omega arith))
      ∙ sym (members_at (λ b. cond (f b) (some nothing) none) n c none (omega arith)))

-- ---- the blocks that wait

module _ (f : ℕ → Bool) where
  pub waits_none : (w : NumberSet) → w ≡ set_of (λ k. false) → Waits f w 0
  waits_none w e c u = ap (λ (x : NumberSet). has x c) e ∙ has_words_of 4 (λ k. false) c u ∙ sym (ap (λ (t : Bool). t && f c) (le-ltb c 0 (omega arith)))

  module _ (i : ℕ) (w w' : NumberSet) (p : Waits f w i) where
    pub waits_yes : f i ≡ true → w' ≡ set_of (λ k. has w k || eqb k i) → Waits f w' (i + 1)
    waits_yes e q c u =
        ap (λ (x : NumberSet). has x c) q ∙ has_words_of 4 (λ k. has w k || eqb k i) c u ∙ ap (λ (t : Bool). t || eqb c i) (p c u)
        ∙ by_eq c i
        (λ z. rw (z, e, eq-eqb i i refl, lt-ltb i (i + 1) (omega arith), le-ltb i i (omega arith)))
        (λ d. ap (λ (t : Bool). (ltb c i && f c) || t) (ne_eqb c i d) ∙ or-false (ltb c i && f c) ∙ sym (next_at f i c d))

    pub waits_no : f i ≡ false → Waits f w (i + 1)
    waits_no e c u = p c u ∙ by_eq c i (λ z. rw (z, e, and-false (ltb i i), and-false (ltb i (i + 1)))) (λ d. sym (next_at f i c d))

-- ---- the levels' starts

module _ (sh : Sheet) (s : List ℕ) (w : NumberSet) where
  pub forward_starts : Started (begins_empty sh) (block_count sh) s (block_count sh) → w ≡ set_of (λ k. false) → Lies (block_count sh) s w (forward_start sh)
  unfolding forward_start is_in
  forward_starts p e =
      record {
        room = p.room;
        are = start_end (begins_empty sh) (block_count sh) s p;
        wait = λ c u. ap (λ (x : NumberSet). has x c) e ∙ has_words_of 4 (λ k. false) c u;
        below = λ c u. refl;
      }

  pub global_starts : Started (is_entry sh) (block_count sh) s (block_count sh) → Waits (is_entry sh) w (block_count sh) → Lies (block_count sh) s w (global_start sh)
  unfolding global_start
  global_starts p q =
      record {
        room = p.room;
        are = start_end (is_entry sh) (block_count sh) s p;
        wait = λ c u. q c u ∙ sym (keep_in (is_entry sh) (block_count sh) c);
        below = λ c u. keep_in (is_entry sh) (block_count sh) c ∙ ap (λ (t : Bool). t && is_entry sh c) (le-ltb c (block_count sh) u);
      }
  -- ---- a block that begins empty

module _ (sh : Sheet) (b : ℕ) where
  pub empty_entry : is_entry sh b ≡ true → true ≡ begins_empty sh b
  unfolding begins_empty
  empty_entry e = rw e

  pub empty_few : is_entry sh b ≡ false → length (preds_of sh b) ≤ 1 → false ≡ begins_empty sh b
  unfolding begins_empty
  empty_few e h = rw (e, le-ltb 1 (length (preds_of sh b)) h)

  pub empty_many : is_entry sh b ≡ false → 1 < length (preds_of sh b) → any (λ p. leb b p) (preds_of sh b) ≡ begins_empty sh b
  unfolding begins_empty
  empty_many e h = rw (e, lt-ltb 1 (length (preds_of sh b)) h)
