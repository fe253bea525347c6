use mathlib.Core.Bool.{false}
use mathlib.Core.Option.{none}
use borrow.Author.Rules.{rules}
use Rattle.table.proofs.Sheets.{blocks_are}
use Rattle.names.proofs.Rows.{all_rows}
use Rattle.names.proofs.names.idoms_named.Goals as goal

pub returns : goal.returns
returns c = all_rows (blocks_are _) c.count.ensures c.all.ensures.ran _ (record { instructions = 0; idom = none; entry = false }) (λ i b q k. search rules)
