use borrow.Author.Rules.{rules}
use Rattle.table.proofs.Sheets.{clobs_are}
use Rattle.names.proofs.Rows.{all_kind}
use Rattle.names.proofs.names.clobs_named.Goals as goal

pub returns : goal.returns
returns c = all_kind (clobs_are _) c.count.ensures c.all.ensures.ran _ (λ i b q k. search rules)
