use mathlib.Core.Option.{none}
use borrow.Author.Rules.{rules}
use Rattle.table.proofs.Sheets.{values_are}
use Rattle.names.proofs.Rows.{all_rows}
use Rattle.names.proofs.names.homes_named.Goals as goal

pub returns : goal.returns
returns c = all_rows (values_are _) c.count.ensures c.all.ensures.ran _ none (λ i b q k. search rules)
