use mathlib.Core.Path.{ap}
use mathlib.Core.Bool.{not}
use mathlib.Core.List.{[]}
use native.Mathlib.Omega.{arith}
use borrow.Author.Rules.{rules}
use Rattle.table.proofs.Sheets.{groups_are}
use Rattle.names.proofs.Rows.{any_rows}
use Rattle.names.proofs.names.apart_from_later.Goals as goal

pub returns : goal.returns
returns c = ap not (any_rows (groups_are _) c.count.ensures c.any.ensures.ran _ (λ z. omega arith) (λ z. omega arith) _ (record { class = 0; regs = [] }) (λ i b q k. search rules))
