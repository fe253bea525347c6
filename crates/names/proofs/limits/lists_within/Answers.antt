use borrow.Author.Rules.{rules}
use Rattle.names.proofs.Rows.{rows_self, all_kind}
use Rattle.names.proofs.limits.lists_within.Goals as goal

pub returns : goal.returns
returns c = all_kind (rows_self _ _) c.count.ensures c.all.ensures.ran _ (λ i b q k. search rules)
