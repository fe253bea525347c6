use mathlib.Core.List.{[]}
use borrow.Author.Rules.{rules}
use Rattle.table.proofs.Sheets.{vgroups_are}
use Rattle.names.proofs.Rows.{all_rows}
use Rattle.names.proofs.names.vgroups_named.Goals as goal

pub returns : goal.returns
returns c = all_rows (vgroups_are _) c.count.ensures c.all.ensures.ran _ [] (λ i b q k. search rules)
