use mathlib.Core.List.{[]}
use borrow.Author.Rules.{rules}
use Rattle.table.proofs.Sheets.{groups_are}
use Rattle.names.proofs.Rows.{all_rows}
use Rattle.names.proofs.names.groups_named.Goals as goal

pub returns : goal.returns
returns c = all_rows (groups_are _) c.count.ensures c.all.ensures.ran _ (record { class = 0; regs = [] }) (λ i b q k. search rules)
