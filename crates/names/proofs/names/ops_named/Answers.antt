use Rattle.entity.specs.declared.forms.Constraint.TheVariants.{Class}
use Rattle.entity.specs.declared.forms.OperandKind.TheVariants.{NonAllocatable}
use Rattle.entity.specs.declared.forms.Place.TheVariants.{Reg}
use borrow.Author.Rules.{rules}
use Rattle.table.proofs.Sheets.{ops_are}
use Rattle.names.proofs.Rows.{all_rows}
use Rattle.names.proofs.names.ops_named.Goals as goal

pub returns : goal.returns
returns c = all_rows (ops_are _) c.count.ensures c.all.ensures.ran _ (record { at = 0; kind = NonAllocatable; constraint = Class (record { 0 = 0 }); place = Reg (record { 0 = 0 }) }) (λ i b q k. search rules)
