-- The preparing walk of level `Global`: `visit` and `visits` of src/levels.rt do what the rules `visit` and `visits` say. That the bound on their
-- number never acts is left to crate visiting. Assumes nothing.
use mathlib.Core.Path.{◌≡◌, refl, sym, ap, ◌∙◌}
use mathlib.Core.Bool.{not, ◌&&◌}
use mathlib.Core.List.{List}
use mathlib.Core.Option
use mathlib.Core.Option.{none, some, Option-elim}
use Prim.Native.Nat.{ℕ, ◌+◌, ◌-◌, ◌≤◌, ◌<◌}
use native.Mathlib.Omega.{arith}
use lib.Dec.{eqb}
use lib.ListN.{length, get_or}
use borrow.Author.Tests.{eq-eqb, ne_eqb}
use Rattle.laws.proofs.Lists.{is_keep}
use Rattle.laws.proofs.First.{first_found}
use Rattle.rules.proofs.Refusals.{in_limits}
use Rattle.laws.specs.First.{first}
use Rattle.laws.specs.Lists.{keep, is_in}
use Rattle.laws.proofs.Cases.{by_option}
use Rattle.laws.proofs.Words.{has_words_of}
use Rattle.bits.specs.Sets.{has, set_of, set_limit}
use Rattle.bits.specs.declared.sets.NumberSet.{NumberSet}
use Rattle.entity.specs.Limits.{block_limit}
use Rattle.std.specs.Prelude.{Some, None}
use Rattle.std.specs.Prelude as Code
use Rattle.entity.specs.declared.numbers.Block.{Block}
use Rattle.rules.specs.Sheet.{Sheet, block_count, succs_of}
use Rattle.rules.specs.Record.{Record, Known, nothing}
use Rattle.rules.specs.Forward.{Walk, Handed, count, take_in, begun, prepare_block, hand_on, visit, visits}
use Rattle.table.specs.Sheet.{sheet_in}
use Rattle.table.specs.Index.{Ready}
use Rattle.table.specs.Edits.{edits_in}
use Rattle.table.proofs.Counted.{count_more}
use Rattle.record.specs.Flat.{record_of}
use Rattle.record.specs.declared.flat.WalkRecord.{WalkRecord}
use Rattle.states.specs.States.{state_in, Lies}
use Rattle.visiting.specs.Measure.{next}
use Rattle.visiting.proofs.Lists.{first_wide}
use Rattle.visiting.proofs.Loops.{bounded_again, bounded_stop, bounded_out}
use Rattle.moves.specs.Walks.{prepared}
use Rattle.move_optimizer.specs.Levels.{Stands, Rests}
use Rattle.moves.proofs.Walks.{walked_fewer}
use Rattle.move_optimizer.proofs.LevelWalks.{begun_is, prepare_is}

-- ---- b waits no more

abbrev pub without : ℕ → Handed → Handed
without b h = record { states = h.states; waiting = keep (λ t. not (eqb t b)) h.waiting }

pub removed_lies : {n : ℕ} {s : List ℕ} {w w' : NumberSet} (h : Handed) (b : ℕ) → w' ≡ set_of (λ k. has w k && not (eqb k b)) → Lies n s w h → Lies n s w' (without b h)
removed_lies {w = w} h b e l =
    record {
      room = l.room;
      are = l.are;
      wait = λ c u. ap (λ (x : NumberSet). has x c) e ∙ has_words_of 4 (λ k. has w k && not (eqb k b)) c u ∙ rw (l.wait c u) (sym (is_keep c (λ t. not (eqb t b)) h.waiting));
      below = λ c u. is_keep c (λ t. not (eqb t b)) h.waiting ∙ rw (l.below c u);
    }

-- ---- the set's lowest is the smallest block that waits

abbrev found_in : NumberSet → Code.Option Block
found_in w = first (λ k. Some (record { 0 = k })) None (has w) 0 set_limit

module _ (sh : Sheet) (few : block_count sh ≤ block_limit) (s : List ℕ) (w : NumberSet) (wh : Walk × Handed) (l : Lies (block_count sh) s w wh.1) where
  lowest_is : found_in w ≡ Option-elim (next sh wh) None (λ k. Some (record { 0 = k }))
  lowest_is = first_wide (λ k. Some (record { 0 = k })) None (has w) (λ b. is_in b wh.1.waiting) (block_count sh) set_limit (omega arith) l.wait l.below

  lowest_none : None ≡ found_in w → next sh wh ≡ none
  unfolding Option-elim
  lowest_none e =
      by_option (next sh wh) (λ d. d)
      (λ k d. let q : None ≡ Some (record { 0 = k }) = e ∙ lowest_is ∙ rw d in let z : ◌≡◌ {A = ℕ} 0 1 = cc in absurd (omega arith))

  lowest_at : (b : _) → Some b ≡ found_in w → next sh wh ≡ some b.0
  unfolding Option-elim
  lowest_at b e =
      by_option (next sh wh) (λ d. let q : Some b ≡ None = e ∙ lowest_is ∙ rw d in let z : ◌≡◌ {A = ℕ} 0 1 = cc in absurd (omega arith))
      (λ k d. let q : Some b ≡ Some (record { 0 = k }) = e ∙ lowest_is ∙ rw d in let r : b ≡ record { 0 = k } = cc in d ∙ rw r)

-- ---- a visit

module _ {t : List ℕ} {rec : WalkRecord} {states edits places counts : List ℕ} {w : NumberSet} {n : ℕ} (wh : Walk × Handed) (b : ℕ) (st : Stands t rec states edits places counts w (n + 1) wh) where
  pub visit_exit : {w' : NumberSet} {l : List ℕ} → l ≡ succs_of (sheet_in t) b → length l ≡ 0 → w' ≡ set_of (λ k. has w k && not (eqb k b))
      → Stands t rec states edits places counts w' n (visit (sheet_in t) wh b)
  unfolding visit
  visit_exit q e r =
      rw (eq-eqb (length (succs_of (sheet_in t) b)) 0 (ap length (sym q) ∙ e), visit)
      (record { walked = walked_fewer n (omega arith) st.walked; lies = removed_lies wh.1 b r st.lies })

  pub visit_on : (s : Record) {rec' : WalkRecord} {states' counts' l : List ℕ} {w₁ w' : NumberSet} → b < block_count (sheet_in t) → l ≡ succs_of (sheet_in t) b → (length l ≡ 0 → ⊥) → w₁ ≡ set_of (λ k. has w k && not (eqb k b))
      → s ≡ take_in (sheet_in t) (Option.get_or (state_in states b) nothing) (record_of rec)
      → record_of rec' ≡ prepared (sheet_in t) b (edits_in edits (length (sheet_in t).edits)) s
      → (get_or counts 0 0 < 4294967295 → counts' ≡ count 0 counts)
      → ((h : Handed) → Lies (block_count (sheet_in t)) states w₁ h → Lies (block_count (sheet_in t)) states' w' (hand_on (sheet_in t) b (record_of rec') h))
      → Stands t rec' states' edits places counts' w' n (visit (sheet_in t) wh b)
  unfolding visit
  visit_on s u q e r p o v y =
      let x = st.walked in
      let c = x.cells in
      let h = without b wh.1 in
      let k = begun (sheet_in t) h b in
      let z = v (omega (arith, c.few 0)) in
      let is : record_of _ ≡ prepare_block (sheet_in t) b wh.0.edits k wh.0.rec =
      o ∙ ap (prepared (sheet_in t) b (edits_in edits (length (sheet_in t).edits))) (p ∙ ap (λ (k : Known). take_in (sheet_in t) k (record_of rec)) (begun_is (sheet_in t) states h st.lies.are u))
      ∙ sym (prepare_is (sheet_in t) b k (edits_in edits (length (sheet_in t).edits)) (record_of rec)) ∙ rw (c.in_cells.is_edits, x.is_rec) in
      rw (ne_eqb (length (succs_of (sheet_in t) b)) 0 (λ d. e (ap length q ∙ d)), visit)
      (record {
        walked = record {
          is_rec = sym is;
          cells = record {
            edit_room = c.edit_room;
            in_cells = c.in_cells;
            place_room = c.place_room;
            few = λ j. rw z (omega (arith, c.few j, count_more 0 j counts));
            is_counts = ap (count 0) c.is_counts ∙ sym z;
          };
        };
        lies = rw is at (y h (removed_lies wh.1 b r st.lies));
      })

-- ---- the visits, at most `most`, of which k are done

pub record Walking (t : List ℕ) (rec : WalkRecord) (states edits places counts : List ℕ) (w : NumberSet) (n left : ℕ) (e : Walk × Handed) : Type 0 where
  pub at : Walk × Handed
  pub stands : Stands t rec states edits places counts w (n + left) at
  pub rest : visits (sheet_in t) left at ≡ e

pub walking_start : {t : List ℕ} {rec : WalkRecord} {states edits places counts : List ℕ} {w : NumberSet} {n left : ℕ} (wh : Walk × Handed) → Stands t rec states edits places counts w (n + left) wh
    → Walking t rec states edits places counts w n left (visits (sheet_in t) left wh)
walking_start wh st = record { at = wh; stands = st; rest = refl }

module _ {t : List ℕ} {rec : WalkRecord} {states edits places counts : List ℕ} {w : NumberSet} {n : ℕ} (most k : ℕ) {e : Walk × Handed} (g : Ready t) (x : Walking t rec states edits places counts w n (most - k) e) where
  few : block_count (sheet_in t) ≤ block_limit
  few = (in_limits (sheet_in t) g.limits).few_blocks

  pub walking_again : {rec' : WalkRecord} {states' counts' : List ℕ} {w' : NumberSet} {b : _} → Some b ≡ found_in w → k < most
      → ((n : ℕ) (wh : Walk × Handed) → b.0 < block_count (sheet_in t) → Stands t rec states edits places counts w (n + 1) wh → Stands t rec' states' edits places counts' w' n (visit (sheet_in t) wh b.0))
      → Walking t rec' states' edits places counts' w' n (most - (k + 1)) e
  walking_again {b = b} l u turn =
      let s = x.stands in
      let z : n + (most - k) ≡ n + (most - (k + 1)) + 1 = omega arith in
      let d = lowest_at (sheet_in t) few states w x.at s.lies b l in
      record {
        at = visit (sheet_in t) x.at b.0;
        stands = turn (n + (most - (k + 1))) x.at (omega (arith, (first_found (λ b. is_in b x.at.1.waiting) 0 (block_count (sheet_in t)) b.0 d).below)) (rw z at s);
        rest = bounded_again (sheet_in t) most k x.at e x.rest b.0 d u;
      }

  rested : x.at ≡ e → Rests t rec states edits places counts n e
  rested q =
      let s = x.stands in
      rw (← q) (record { walked = walked_fewer n (omega arith) s.walked; are = s.lies.are })

  pub walking_stop : None ≡ found_in w → Rests t rec states edits places counts n e
  walking_stop l = rested (bounded_stop (sheet_in t) most k x.at e x.rest (lowest_none (sheet_in t) few states w x.at x.stands.lies l))

  pub walking_out : most ≤ k → Rests t rec states edits places counts n e
  walking_out u = rested (bounded_out (sheet_in t) most k x.at e x.rest u)
