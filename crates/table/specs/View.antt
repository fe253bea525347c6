-- What the accessors answer, by the sheet: rows past the end, and what a row says as the code's types.
use Rattle.std.specs.Prelude.{[], ℕ, get_or, Some, None}
use Rattle.std.proofs.Math.Option.{Option, none, some}
use Rattle.entity.specs.declared.forms.Place.TheVariants.{Reg}
use Rattle.entity.specs.declared.forms.Constraint.TheVariants.{Class}
use Rattle.entity.specs.declared.forms.OperandKind.TheVariants.{NonAllocatable}
use Rattle.entity.specs.declared.forms.Edit.TheVariants as Edit
use Rattle.std.specs.Prelude as Code
use Rattle.entity.specs.declared.numbers.Block.{Block}
use Rattle.rules.specs.Sheet.{Sheet, GroupRow, ParamRow, OpRow, EditRow}
use Rattle.entity.specs.declared.numbers.SpillSlot.{SpillSlot}
use Rattle.table.specs.declared.view.Param.{Param}
use Rattle.table.specs.declared.view.Operand.{Operand}

-- row n of these kinds; past the end it is all 0
abbrev pub group_row : Sheet → ℕ → GroupRow
group_row sh g = get_or sh.groups g (record { class = 0; regs = [] })

abbrev pub param_row : Sheet → ℕ → ParamRow
param_row sh n = get_or sh.params n (record { at = 0; value = 0; place = Reg (record { 0 = 0 }) })

abbrev pub op_row : Sheet → ℕ → OpRow
op_row sh n = get_or sh.ops n (record { at = 0; kind = NonAllocatable; constraint = Class (record { 0 = 0 }); place = Reg (record { 0 = 0 }) })

abbrev pub edit_row : Sheet → ℕ → EditRow
edit_row sh n = get_or sh.edits n (record { at = 0; edit = Edit.Nothing })

-- a number that may be absent, as the slot or block that it names
unfoldable pub slot_found : Option ℕ → Code.Option SpillSlot
slot_found none = None
slot_found (some s) = Some (record { 0 = s })

unfoldable pub block_found : Option ℕ → Code.Option Block
block_found none = None
block_found (some b) = Some (record { 0 = b })

-- a row, its numbers typed
abbrev pub param_of : ParamRow → Param
param_of p = record { at = record { 0 = p.at }; value = record { 0 = p.value }; place = p.place }

abbrev pub operand_of : OpRow → Operand
operand_of o = record { at = record { 0 = o.at }; kind = o.kind; constraint = o.constraint; place = o.place }
