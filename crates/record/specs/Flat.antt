-- The record in its flat table: the lists of its groups, one after the other.
use Rattle.std.specs.Prelude.{◌≡◌, cond, List, ℕ, ◌+◌, ltb, length, take, drop, set}
use Rattle.entity.specs.Limits.{reg_limit, slot_limit, unit_limit, value_limit}
use Rattle.rules.specs.Record.{Record}
use Rattle.record.specs.declared.flat.WalkRecord.{WalkRecord}
use Rattle.record.specs.Layout.{defined_at, held_at, noted_reg_at, noted_value_at, record_length, spilled_at, stored_at, unit_reg_at, unit_value_at}

-- the list of `size` entries at `at`
abbrev pub section : List ℕ → ℕ → ℕ → List ℕ
section rec at size = take size (drop at rec)

unfoldable pub record_in : List ℕ → Record
record_in rec =
    record {
      writes = record { reg = section rec unit_reg_at unit_limit; value = section rec unit_value_at unit_limit };
      known = record { held = section rec held_at reg_limit; stored = section rec stored_at slot_limit };
      blocks = record { defined = section rec defined_at value_limit; spilled = section rec spilled_at value_limit };
      notes = record { reg = section rec noted_reg_at unit_limit; value = section rec noted_value_at unit_limit };
    }

-- the record of a walk, by its cells
abbrev pub record_of : WalkRecord → Record
record_of rec = record_in rec.cells

-- entry n of the list of `size` entries at `at` changed to x
unfoldable pub changed_in : ℕ → ℕ → ℕ → ℕ → List ℕ → List ℕ
changed_in at size n x rec = cond (ltb n size) (set rec (at + n) x) rec

-- there is one table of the record's length for each record
abbrev pub OneTable : Type 0
OneTable = (a b : List ℕ) → length a ≡ record_length → length b ≡ record_length → record_in a ≡ record_in b → a ≡ b
