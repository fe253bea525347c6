-- `entry` and `change` of src/flat.rt, and what is made of them: the flat record's reads and stores are those of the
-- record's lists (`record_in`). Assumes nothing.
use mathlib.Core.Path.{◌≡◌, refl, sym, ◌∙◌}
use mathlib.Core.Bool.{Bool, true, false, cond}
use mathlib.Core.List.{List}
use Prim.Native.Nat.{ℕ, ◌+◌, ◌-◌, ◌≤◌}
use native.Mathlib.Omega.{arith}
use lib.ListN.{length, set, take, drop, length-take}
use borrow.Rule.Slice.PartMut.{put_mid}
use lib.Seq.{take_all, take-set-le, take-set-lt, drop-set-lt, drop-set-add, set_out}
use lib.Dec.{ltb}
use Rattle.entity.specs.Limits.{reg_limit, slot_limit, unit_limit, value_limit}
use borrow.Author.Tests.{lt-ltb, le-ltb}
use Rattle.laws.proofs.Cases.{by_lt}
use Rattle.rules.specs.Record.{Record, Writes, set_write, with_known, write_unit, hold, store, define_in, spill_in}
use Rattle.record.specs.Layout.{defined_at, held_at, noted_reg_at, noted_value_at, record_length, spilled_at, stored_at, unit_reg_at, unit_value_at}
use Rattle.record.specs.Flat.{section, record_in, changed_in}
use Rattle.record.proofs.Parts.{mid_before, mid_behind, mid_part}

few : (k : ℕ) (l : List ℕ) (n : ℕ) → k ≤ n → length (take k l) ≤ n
few k l n h = rw length-take (omega arith)

-- ---- a list changed

same : (rec : List ℕ) (at size n x : ℕ) → section (changed_in at size n x rec) at size ≡ set (section rec at size) n x
unfolding changed_in
same rec at size n x =
    by_lt n size
    (λ h. rw (lt-ltb n size h, drop-set-add at rec n x) (take-set-lt size (drop at rec) n x h))
    (λ h. rw (le-ltb n size h) (sym (set_out (section rec at size) n x (few size (drop at rec) n h))))

-- a list that ends before, and one that begins behind
before : (rec : List ℕ) (at size n x p k : ℕ) → p + k ≤ at → section (changed_in at size n x rec) p k ≡ section rec p k
unfolding changed_in
before rec at size n x p k h = go (ltb n size)
  where
    go : (b : Bool) → section (cond b (set rec (at + n) x) rec) p k ≡ section rec p k
    go true =
        let e : at + n ≡ p + (at + n - p) = omega arith in
        rw (e, drop-set-add p rec (at + n - p) x) (take-set-le k (drop p rec) (at + n - p) x (omega arith))
    go false = refl

behind : (rec : List ℕ) (at size n x p k : ℕ) → at + size ≤ p → section (changed_in at size n x rec) p k ≡ section rec p k
unfolding changed_in
behind rec at size n x p k h =
    by_lt n size
    (λ l. rw (lt-ltb n size l, drop-set-lt p rec (at + n) x (omega arith)))
    (λ l. rw (le-ltb n size l))

abbrev with_notes : Writes → Record → Record
with_notes n s = record { writes = s.writes; known = s.known; blocks = s.blocks; notes = n }

module _ (rec : List ℕ) where
  pub unit_changed : (u r v : ℕ) → record_in (changed_in unit_value_at unit_limit u v (changed_in unit_reg_at unit_limit u r rec)) ≡ write_unit r v (record_in rec) u
  unfolding record_in
  unit_changed u r v =
      let s = changed_in unit_reg_at unit_limit u r rec in
      rw (
        before s unit_value_at unit_limit u v unit_reg_at unit_limit (omega arith),
        same rec unit_reg_at unit_limit u r,
        same s unit_value_at unit_limit u v,
        behind rec unit_reg_at unit_limit u r unit_value_at unit_limit (omega arith),
        behind s unit_value_at unit_limit u v held_at reg_limit (omega arith),
        behind rec unit_reg_at unit_limit u r held_at reg_limit (omega arith),
        behind s unit_value_at unit_limit u v stored_at slot_limit (omega arith),
        behind rec unit_reg_at unit_limit u r stored_at slot_limit (omega arith),
        behind s unit_value_at unit_limit u v defined_at value_limit (omega arith),
        behind rec unit_reg_at unit_limit u r defined_at value_limit (omega arith),
        behind s unit_value_at unit_limit u v spilled_at value_limit (omega arith),
        behind rec unit_reg_at unit_limit u r spilled_at value_limit (omega arith),
        behind s unit_value_at unit_limit u v noted_reg_at unit_limit (omega arith),
        behind rec unit_reg_at unit_limit u r noted_reg_at unit_limit (omega arith),
        behind s unit_value_at unit_limit u v noted_value_at unit_limit (omega arith),
        behind rec unit_reg_at unit_limit u r noted_value_at unit_limit (omega arith),
      )

  pub held_changed : (r v : ℕ) → record_in (changed_in held_at reg_limit r v rec) ≡ hold r v (record_in rec)
  unfolding record_in
  held_changed r v =
      rw (
        before rec held_at reg_limit r v unit_reg_at unit_limit (omega arith),
        before rec held_at reg_limit r v unit_value_at unit_limit (omega arith),
        same rec held_at reg_limit r v,
        behind rec held_at reg_limit r v stored_at slot_limit (omega arith),
        behind rec held_at reg_limit r v defined_at value_limit (omega arith),
        behind rec held_at reg_limit r v spilled_at value_limit (omega arith),
        behind rec held_at reg_limit r v noted_reg_at unit_limit (omega arith),
        behind rec held_at reg_limit r v noted_value_at unit_limit (omega arith),
      )

  pub slot_changed : (t v : ℕ) → record_in (changed_in stored_at slot_limit t v rec) ≡ store t v (record_in rec)
  unfolding record_in
  slot_changed t v =
      rw (
        before rec stored_at slot_limit t v unit_reg_at unit_limit (omega arith),
        before rec stored_at slot_limit t v unit_value_at unit_limit (omega arith),
        before rec stored_at slot_limit t v held_at reg_limit (omega arith),
        same rec stored_at slot_limit t v,
        behind rec stored_at slot_limit t v defined_at value_limit (omega arith),
        behind rec stored_at slot_limit t v spilled_at value_limit (omega arith),
        behind rec stored_at slot_limit t v noted_reg_at unit_limit (omega arith),
        behind rec stored_at slot_limit t v noted_value_at unit_limit (omega arith),
      )

  pub defined_changed : (v b : ℕ) → record_in (changed_in defined_at value_limit v b rec) ≡ define_in b v (record_in rec)
  unfolding record_in
  defined_changed v b =
      rw (
        before rec defined_at value_limit v b unit_reg_at unit_limit (omega arith),
        before rec defined_at value_limit v b unit_value_at unit_limit (omega arith),
        before rec defined_at value_limit v b held_at reg_limit (omega arith),
        before rec defined_at value_limit v b stored_at slot_limit (omega arith),
        same rec defined_at value_limit v b,
        behind rec defined_at value_limit v b spilled_at value_limit (omega arith),
        behind rec defined_at value_limit v b noted_reg_at unit_limit (omega arith),
        behind rec defined_at value_limit v b noted_value_at unit_limit (omega arith),
      )

  pub spilled_changed : (v b : ℕ) → record_in (changed_in spilled_at value_limit v b rec) ≡ spill_in b v (record_in rec)
  unfolding record_in
  spilled_changed v b =
      rw (
        before rec spilled_at value_limit v b unit_reg_at unit_limit (omega arith),
        before rec spilled_at value_limit v b unit_value_at unit_limit (omega arith),
        before rec spilled_at value_limit v b held_at reg_limit (omega arith),
        before rec spilled_at value_limit v b stored_at slot_limit (omega arith),
        before rec spilled_at value_limit v b defined_at value_limit (omega arith),
        same rec spilled_at value_limit v b,
        behind rec spilled_at value_limit v b noted_reg_at unit_limit (omega arith),
        behind rec spilled_at value_limit v b noted_value_at unit_limit (omega arith),
      )

  pub note_changed : (u r v : ℕ) → record_in (changed_in noted_value_at unit_limit u v (changed_in noted_reg_at unit_limit u r rec)) ≡ with_notes (set_write r v u (record_in rec).notes) (record_in rec)
  unfolding record_in
  note_changed u r v =
      let s = changed_in noted_reg_at unit_limit u r rec in
      rw (
        before s noted_value_at unit_limit u v unit_reg_at unit_limit (omega arith),
        before rec noted_reg_at unit_limit u r unit_reg_at unit_limit (omega arith),
        before s noted_value_at unit_limit u v unit_value_at unit_limit (omega arith),
        before rec noted_reg_at unit_limit u r unit_value_at unit_limit (omega arith),
        before s noted_value_at unit_limit u v held_at reg_limit (omega arith),
        before rec noted_reg_at unit_limit u r held_at reg_limit (omega arith),
        before s noted_value_at unit_limit u v stored_at slot_limit (omega arith),
        before rec noted_reg_at unit_limit u r stored_at slot_limit (omega arith),
        before s noted_value_at unit_limit u v defined_at value_limit (omega arith),
        before rec noted_reg_at unit_limit u r defined_at value_limit (omega arith),
        before s noted_value_at unit_limit u v spilled_at value_limit (omega arith),
        before rec noted_reg_at unit_limit u r spilled_at value_limit (omega arith),
        before s noted_value_at unit_limit u v noted_reg_at unit_limit (omega arith),
        same rec noted_reg_at unit_limit u r,
        same s noted_value_at unit_limit u v,
        behind rec noted_reg_at unit_limit u r noted_value_at unit_limit (omega arith),
      )

-- ---- a list of the table stored at once

-- the values that the registers hold
pub held_stored : (rec ys : List ℕ) → record_length ≤ length rec → length ys ≡ reg_limit → record_in (put_mid held_at reg_limit rec ys) ≡ with_known (record { held = ys; stored = (record_in rec).known.stored }) (record_in rec)
unfolding record_in
held_stored rec ys l e =
    let h : held_at + reg_limit ≤ length rec = omega arith in
    let z : section (put_mid held_at reg_limit rec ys) held_at reg_limit ≡ ys = mid_part held_at reg_limit rec ys h e 0 reg_limit (omega arith) ∙ take_all reg_limit ys (omega arith) in
    rw (
      mid_before held_at reg_limit rec ys h e unit_reg_at unit_limit (omega arith),
      mid_before held_at reg_limit rec ys h e unit_value_at unit_limit (omega arith),
      z,
      mid_behind held_at reg_limit rec ys h e stored_at slot_limit (omega arith),
      mid_behind held_at reg_limit rec ys h e defined_at value_limit (omega arith),
      mid_behind held_at reg_limit rec ys h e spilled_at value_limit (omega arith),
      mid_behind held_at reg_limit rec ys h e noted_reg_at unit_limit (omega arith),
      mid_behind held_at reg_limit rec ys h e noted_value_at unit_limit (omega arith),
    )
