use Rattle.entity.specs.declared.forms.Place.TheVariants.{Reg}
use borrow.Author.Rules.{rules}
use Rattle.table.proofs.Sheets.{params_are}
use Rattle.names.proofs.Rows.{all_rows}
use Rattle.names.proofs.names.params_named.Goals as goal

pub returns : goal.returns
returns c = all_rows (params_are _) c.count.ensures c.all.ensures.ran _ (record { at = 0; value = 0; place = Reg (record { 0 = 0 }) }) (λ i b q k. search rules)
