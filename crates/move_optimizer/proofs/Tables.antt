-- The tables that `walk` and `walk_in` of src/levels.rt make: an empty record is the rules' `fresh`, no state is set, no class has its words. Assumes nothing.
use mathlib.Core.Path.{◌≡◌, sym, ap, ◌∙◌}
use mathlib.Core.Bool.{and-false}
use mathlib.Core.List.{List}
use mathlib.Core.Logic.{◌⊎◌, inl, inr}
use Prim.Native.Nat.{ℕ, ◌+◌, ◌≤◌}
use native.Mathlib.Omega.{arith}
use lib.ListN.{length, replicate, length-replicate, get_or-replicate}
use Rattle.laws.proofs.Lists.{zeros}
use Rattle.entity.specs.Limits.{block_limit, reg_limit, slot_limit, unit_limit, value_limit}
use Rattle.entity.specs.declared.forms.Level.{Level}
use Rattle.entity.specs.declared.forms.Level.TheVariants.{Off, Local, Forward, Global}
use Rattle.rules.specs.Sheet.{Sheet, block_count}
use Rattle.rules.specs.Record.{nothing, absent, fresh}
use Rattle.rules.proofs.Refusals.{in_limits}
use Rattle.table.specs.Sheet.{sheet_in}
use Rattle.table.specs.Index.{Ready}
use Rattle.move_optimizer.specs.Levels.{handed_blocks}
use Rattle.rules.specs.Forward.{Walk}
use Rattle.record.specs.Layout.{defined_at, held_at, noted_reg_at, noted_value_at, record_length, spilled_at, stored_at, unit_reg_at, unit_value_at}
use Rattle.record.specs.Flat.{section, record_in}
use Rattle.record.specs.declared.flat.WalkRecord.{WalkRecord}
use Rattle.states.specs.Layout.{state_at}
use Rattle.states.specs.States.{fits, is_set, Unset}
use Rattle.states.proofs.Spans.{section_filled}
use Rattle.holders.specs.Holders.{Blank}
use Rattle.moves.specs.Walks.{Written, Walked}

pub made_unset : (n m : ℕ) → n ≤ block_limit → state_at n ≤ m → Unset n (replicate m 0)
unfolding is_set
made_unset n m l h =
    let e : length (replicate {A = ℕ} m 0) ≡ m = length-replicate {A = ℕ} m 0 in
    record { room = record { few = l; long = omega arith }; none = λ b. rw (zeros m b) (and-false (fits (replicate m 0) b)) }

-- ---- the blocks that have a state at a level

pub handed_most : (sh : Sheet) (level : Level) → handed_blocks sh level ≤ block_count sh
unfolding handed_blocks
handed_most sh Off = omega arith
handed_most sh Local = omega arith
handed_most sh Forward = omega arith
handed_most sh Global = omega arith

pub handed_few : {t : List ℕ} (level : Level) → Ready t → handed_blocks (sheet_in t) level ≤ block_limit
handed_few {t} level g = omega (arith, handed_most (sheet_in t) level, (in_limits (sheet_in t) g.limits).few_blocks)

module _ (sh : Sheet) {level : Level} where
  pub none_handed : (level ≡ Off) ⊎ (level ≡ Local) → 0 ≡ handed_blocks sh level
  unfolding handed_blocks
  none_handed (inl q) = rw q
  none_handed (inr q) = rw q

  pub all_handed : (level ≡ Forward) ⊎ (level ≡ Global) → block_count sh ≡ handed_blocks sh level
  unfolding handed_blocks
  all_handed (inl q) = rw q
  all_handed (inr q) = rw q

-- ---- the classes and the record

pub made_blank : (m : ℕ) → 68 ≤ m → Blank (replicate m 0)
made_blank m h = record { long = let e : length (replicate {A = ℕ} m 0) ≡ m = length-replicate {A = ℕ} m 0 in omega arith; zeros = λ k. zeros m k }

module _ (m : ℕ) (h : record_length ≤ m) where
  part_is : (at k : ℕ) → at + k ≤ record_length → section (replicate m absent) at k ≡ replicate k absent
  part_is at k l =
      let e : length (replicate {A = ℕ} m absent) ≡ m = length-replicate {A = ℕ} m absent in
      section_filled (replicate m absent) at k absent (omega arith) (λ j u. get_or-replicate {A = ℕ} m (at + j) absent 0 (omega arith))

  made_fresh : record_in (replicate m absent) ≡ fresh
  unfolding record_in fresh nothing
  made_fresh =
      rw (
        part_is unit_reg_at unit_limit (omega arith),
        part_is unit_value_at unit_limit (omega arith),
        part_is held_at reg_limit (omega arith),
        part_is stored_at slot_limit (omega arith),
        part_is defined_at value_limit (omega arith),
        part_is spilled_at value_limit (omega arith),
        part_is noted_reg_at unit_limit (omega arith),
        part_is noted_value_at unit_limit (omega arith),
      )

pub made_walked : {t : List ℕ} {rec : WalkRecord} {edits places counts : List ℕ} {n : ℕ} {w : Walk} → rec.cells ≡ replicate record_length absent → w.rec ≡ fresh → Written t edits places counts n w → Walked t rec edits places counts n w
made_walked r e c = record { is_rec = e ∙ sym (ap record_in r ∙ made_fresh record_length (omega arith)); cells = c }
