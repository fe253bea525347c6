-- For `cleaned_in` of src/lib.rt, from the walk before the first block to the text of the answer: the forward rules, the sweep, the rows that stand in the cells. Assumes nothing.
use Rattle.entity.specs.declared.forms.Refusal.{Refusal}
use Rattle.std.specs.Prelude as Code
use Rattle.std.specs.Prelude.{Ok, Err}
use mathlib.Core.Path.{◌≡◌, refl, sym, ◌∙◌, ap₂}
use mathlib.Core.Bool.{Bool, true, false}
use mathlib.Core.List.{List, zip}
use mathlib.Core.Option.{none}
use Prim.Native.Nat.{ℕ, ◌+◌, ◌*◌, ◌≤◌, ◌<◌}
use native.Mathlib.Omega.{arith}
use lib.ListN.{length, replicate}
use lib.Seq.{take_all}
use Rattle.laws.specs.Fold.{run}
use Rattle.entity.specs.declared.forms.Place.{Place}
use Rattle.entity.specs.declared.forms.Place.TheVariants.{Reg}
use Rattle.entity.specs.declared.forms.Edit.{Edit}
use Rattle.entity.specs.declared.forms.Edit.TheVariants.{Nothing}
use Rattle.entity.specs.declared.forms.Level.{Level}
use Rattle.rules.specs.Sheet.{Sheet}
use Rattle.rules.specs.Record.{fresh}
use Rattle.rules.specs.Forward.{Walk, optimise, start}
use Rattle.rules.specs.Function.{edit, slot_of, func_of}
use Rattle.rules.specs.Sweep.{ends, struck, strike_blocks, sweep}
use Rattle.rules.specs.Answer.{first_refusal, checks, output, cleaned, fitted}
use Rattle.table.specs.Layout.{edit_width}
use Rattle.table.specs.Rows.{count_in}
use Rattle.table.specs.Sheet.{sheet_in}
use Rattle.table.specs.Index.{Ready}
use Rattle.table.specs.Edits.{edit_in, place_in}
use Rattle.table.proofs.Stored.{edits_at_lem, places_at}
use Rattle.run.specs.Swept.{optimised}
use Rattle.run.proofs.Within.{WalkIn, walk_in}
use Rattle.accepted.specs.Accepted.{Accepted}
use Rattle.accepted.proofs.Giving.{gives, lists_agree}
use Rattle.dead_spill_elimination.specs.Slots.{Low, LowReads}
use Rattle.dead_spill_elimination.specs.Held.{Held, Swept, the_edits, swept_edits}
use Rattle.answer.specs.Rows.{Stands}
use Rattle.moves.specs.Walks.{Ordered, Written, walk_most}
use Rattle.drifthurdle.specs.Loading.{EditsLoaded, PlacesLoaded}
use Rattle.drifthurdle.specs.Call.{Gives}
use Rattle.drifthurdle.proofs.Loading.{started}

module _ {t : List ℕ} (g : Ready t) (pass : first_refusal (checks (sheet_in t)) ≡ none) (level : Level) where
  abbrev sh : Sheet
  sh = sheet_in t

  abbrev w : Walk
  w = optimised sh level

  a : Accepted sh
  a = gives sh pass

  -- ---- after the forward rules

  pub optimised_written : {e p e' p' c' : List ℕ} → EditsLoaded t e (count_in t 12) → count_in t 12 * edit_width ≤ length e → PlacesLoaded t p (count_in t 10) → count_in t 10 ≤ length p
      → (Ordered t → (n : ℕ) (w : Walk) → w.rec ≡ fresh → Written t e p (replicate 9 0) (n + walk_most) w → Written t e' p' c' n (optimise sh level w))
      → Written t e' p' c' 4000000000 w
  unfolding start
  optimised_written {e} {p} E x P y O =
      O (record { ready = g; order = a.order }) 4000000000 (start sh) refl (started g a e p E P x y)

  module _ {e p c : List ℕ} (W : Written t e p c 4000000000 w) (long : length c ≡ 9) where
    pub plain_stands : Stands t e p c w
    plain_stands =
        record {
          ready = g;
          in_cells = W.in_cells;
          enough = omega arith;
          is_counts = W.is_counts ∙ sym (take_all 9 c (omega arith));
        }

    -- ---- the sweep

    within : WalkIn w
    within = walk_in sh level g.limits g.names

    low_edit : (j : ℕ) → j < length sh.edits → LowReads (edit (edit_in e j))
    low_edit j h = rw (W.in_cells.is_edits, edits_at_lem e (length sh.edits) j Nothing h) at (within.1 j)

    low_place : (n : ℕ) → n < length sh.ops → Low (slot_of (place_in p n))
    unfolding slot_of
    low_place n h = rw (W.in_cells.is_places, places_at p (length sh.ops) n (Reg (record { 0 = 0 })) h) at (within.0 n (Reg (record { 0 = 0 })) (λ s y. absurd y))

    held : Held t e p c
    held =
        record {
          ready = g;
          agree = lists_agree sh pass;
          order = a.order;
          low_edits = low_edit;
          low_places = low_place;
          room = W.edit_room;
          few = λ k. omega (arith, W.few k);
        }

    module _ {e' c' : List ℕ} (S : Held t e p c → Swept t e p c e' c') (long' : length c' ≡ 9) where
      swept_edits_lem : (sweep sh w).edits ≡ swept_edits t e p
      unfolding sweep
      swept_edits_lem = ap₂ (λ (ps : List Place) (es : List Edit). strike_blocks sh ps es (ends (func_of sh ps es))) W.in_cells.is_places W.in_cells.is_edits

      swept_counts : (sweep sh w).counts ≡ run struck c (zip (the_edits t e) (swept_edits t e p))
      unfolding sweep
      swept_counts = rw (W.is_counts, W.in_cells.is_edits, W.in_cells.is_places)

      same_places : (sweep sh w).places ≡ w.places
      unfolding sweep
      same_places = refl

      pub swept_stands : Stands t e' p c' (sweep sh w)
      swept_stands =
          let s = S held in
          record {
            ready = g;
            in_cells = record {
              cells_of_edits = λ n h. s.cells_kept n h (W.in_cells.cells_of_edits n h);
              is_edits = swept_edits_lem ∙ sym s.edits_are;
              place_cells = W.in_cells.place_cells;
              is_places = same_places ∙ W.in_cells.is_places;
            };
            enough = omega arith;
            is_counts = swept_counts ∙ sym s.counts_are ∙ sym (take_all 9 c' (omega arith));
          }

  -- ---- the answer

  cleaned_plain : (swept : Bool) → swept ≡ false → cleaned sh level swept ≡ output sh w
  unfolding cleaned
  cleaned_plain swept q = rw (q, cleaned)

  cleaned_swept : (swept : Bool) → swept ≡ true → cleaned sh level swept ≡ output sh (sweep sh w)
  unfolding cleaned
  cleaned_swept swept q = rw (q, cleaned)

  module _ {e p c : List ℕ} (out : List ℕ) {swept : Bool} {o : Code.Result ℕ Refusal} {new : List ℕ}
      (F : (w : Walk) → Stands t e p c w → Gives (fitted (output sh w) (length out)) o out new) where
    pub gives_plain : swept ≡ false → Stands t e p c w → Gives (fitted (cleaned sh level swept) (length out)) o out new
    gives_plain q x = rw (cleaned_plain swept q) (F w x)

    pub gives_swept : swept ≡ true → Stands t e p c (sweep sh w) → Gives (fitted (cleaned sh level swept) (length out)) o out new
    gives_swept q x = rw (cleaned_swept swept q) (F (sweep sh w) x)
