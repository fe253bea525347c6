-- Document 01: "Limits: 64 slots, 128 registers, 128 units, 16 classes, 32 register groups, 256 values, 32 value groups, 64 blocks,
-- 512 instructions, 2,048 operands, 1,024 edits. A unit or a reuse index over 127 passes a limit too."
use Rattle.std.specs.Prelude.{ℕ}

abbrev pub slot_limit : ℕ
slot_limit = 64

abbrev pub reg_limit : ℕ
reg_limit = 128

abbrev pub unit_limit : ℕ
unit_limit = 128

abbrev pub class_limit : ℕ
class_limit = 16

abbrev pub group_limit : ℕ
group_limit = 32

abbrev pub value_limit : ℕ
value_limit = 256

abbrev pub value_group_limit : ℕ
value_group_limit = 32

abbrev pub block_limit : ℕ
block_limit = 64

abbrev pub inst_limit : ℕ
inst_limit = 512

abbrev pub operand_limit : ℕ
operand_limit = 2048

abbrev pub edit_limit : ℕ
edit_limit = 1024

abbrev pub reuse_limit : ℕ
reuse_limit = 128

-- 1: "sheet over 65,536 bytes"
abbrev pub byte_limit : ℕ
byte_limit = 65536
