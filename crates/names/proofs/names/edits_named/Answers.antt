use Rattle.entity.specs.declared.forms.Edit.TheVariants as Edit
use borrow.Author.Rules.{rules}
use Rattle.table.proofs.Sheets.{edits_are}
use Rattle.names.proofs.Rows.{all_rows}
use Rattle.names.proofs.names.edits_named.Goals as goal

pub returns : goal.returns
returns c = all_rows (edits_are _) c.count.ensures c.all.ensures.ran _ (record { at = 0; edit = Edit.Nothing }) (λ i b q k. search rules)
