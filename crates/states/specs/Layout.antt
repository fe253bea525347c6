-- Where the states of the blocks stand in their flat table. The code's constants are these: `layout_agrees`.
use Rattle.std.specs.Prelude.{ℕ, ◌+◌, ◌*◌}
use Rattle.entity.specs.Limits.{slot_limit, reg_limit, block_limit}

-- how many numbers a state has: one for each register, then one for each slot
abbrev pub known_size : ℕ
known_size = reg_limit + slot_limit

-- a flag for each block stands first, then the states: that of block b from here on, and n of them end where that of block n would begin
abbrev pub state_at : ℕ → ℕ
state_at b = block_limit + b * known_size
