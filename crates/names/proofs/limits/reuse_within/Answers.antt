use borrow.Author.Rules.{rules}
use Rattle.rules.specs.Accept.{reuse_within}
use Rattle.names.proofs.limits.reuse_within.Goals as goal

pub returns-in-Reuse : goal.returns-in-Reuse
unfolding reuse_within
returns-in-Reuse c = search rules

pub returns-in_default : goal.returns-in_default
unfolding reuse_within
returns-in_default c = search rules
