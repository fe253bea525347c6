use Rattle.std.proofs.Common.{rules}
use mathlib.Core.List.{[]}
use mathlib.Core.Bool.{false}
use Rattle.table.proofs.Sheets.{classes_are}
use Rattle.names.proofs.Rows.{all_rows}
use Rattle.names.proofs.names.classes_named.Goals as goal

pub returns : goal.returns
returns c = all_rows (classes_are _) c.count.ensures c.all.ensures.ran _ (record { slots = false; members = [] }) (λ i b q k. search rules)
