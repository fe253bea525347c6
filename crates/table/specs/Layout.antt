-- Where the sections of a table begin, how long a table is, and how wide an edit is. The code's constants are these: `layout_agrees`.
use Rattle.std.specs.Prelude.{cond, ℕ, leb}

-- where each kind's rows begin among all rows, and how many rows there are
abbrev pub kind_index : ℕ
kind_index = 0

-- each block's first instruction, and after the last block their number
abbrev pub inst_index : ℕ
inst_index = 16

-- where the rows of each block begin among the successor rows, the predecessor rows, the parameter rows
abbrev pub succ_index : ℕ
succ_index = 96

abbrev pub pred_index : ℕ
pred_index = 176

abbrev pub param_index : ℕ
param_index = 256

-- where the rows of each instruction begin among the operand rows, the clobber rows, the edit rows
abbrev pub op_index : ℕ
op_index = 336

abbrev pub clob_index : ℕ
clob_index = 864

abbrev pub edit_index : ℕ
edit_index = 1392

-- from here on stand the cells of the rows; where each row starts, and where the last one ends, stands from the table's end downward
abbrev pub cells_at : ℕ
cells_at = 1920

-- "sheet over 65,536 bytes": a row has three bytes at least, a cell two
abbrev pub row_limit : ℕ
row_limit = 21845

abbrev pub cell_limit : ℕ
cell_limit = 32768

-- how long a table is, for a sheet of so many bytes: cells and rows are two for each three bytes at most
unfoldable pub table_length : ℕ → ℕ
table_length n = cond (leb n 1024) 2604 (cond (leb n 8192) 7384 45612)

-- the cells of an edit where edits are altered: kind, to, from, value
abbrev pub edit_width : ℕ
edit_width = 4
