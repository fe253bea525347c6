-- Where the lists of a record begin in its flat table. The code's constants are these: `layout_agrees`.
use Rattle.std.specs.Prelude.{ℕ, ◌+◌}
use Rattle.entity.specs.Limits.{slot_limit, reg_limit, unit_limit, value_limit}

-- the register and the value of each unit's last write
abbrev pub unit_reg_at : ℕ
unit_reg_at = 0

abbrev pub unit_value_at : ℕ
unit_value_at = unit_reg_at + unit_limit

-- the value that each register holds, and each slot
abbrev pub held_at : ℕ
held_at = unit_value_at + unit_limit

abbrev pub stored_at : ℕ
stored_at = held_at + reg_limit

-- each value's defining block, and its last spilled block
abbrev pub defined_at : ℕ
defined_at = stored_at + slot_limit

abbrev pub spilled_at : ℕ
spilled_at = defined_at + value_limit

-- the last writes that an emergency spill noted
abbrev pub noted_reg_at : ℕ
noted_reg_at = spilled_at + value_limit

abbrev pub noted_value_at : ℕ
noted_value_at = noted_reg_at + unit_limit

-- how long the table is
abbrev pub record_length : ℕ
record_length = noted_value_at + unit_limit
