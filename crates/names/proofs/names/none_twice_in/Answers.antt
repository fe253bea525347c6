use borrow.Author.Rules.{rules}
use Rattle.names.proofs.Rows.{rows_self, all_kind}
use Rattle.names.proofs.Within.{below_at}
use Rattle.names.proofs.names.none_twice_in.Goals as goal

pub returns : goal.returns
returns c =
    λ e. all_kind (rows_self _ _) c.count.ensures c.all.ensures.ran _ (λ i b q k. let e = below_at c.args.t.now c.args.k.0 c.args.from e i in
    search rules)
