use borrow.Author.Rules.{rules}
use Rattle.table.proofs.Sheets.{ops_are}
use Rattle.names.proofs.Rows.{all_kind}
use Rattle.names.proofs.limits.ops_within.Goals as goal

pub returns : goal.returns
returns c = all_kind (ops_are _) c.count.ensures c.all.ensures.ran _ (λ i b q k. search rules)
