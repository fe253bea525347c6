use mathlib.Core.Path.{refl}
use borrow.Author.Rules.{rules}
use Rattle.entity.specs.declared.forms.Edit.TheVariants as Edit
use Rattle.table.proofs.Stored.{sheet_edit_is}
use Rattle.names.proofs.names.edit_named.Goals as goal

pub returns-then-edit_at-insts : goal.returns-then-edit_at-insts
returns-then-edit_at-insts c =
    let s = sheet_edit_is c.args.t.now c.args.n.0 (record { at = 0; edit = Edit.Nothing }) refl in
    search rules
