use borrow.Author.Rules.{rules}
use Rattle.names.specs.Steps.{code_named}
use Rattle.names.proofs.names.code_named.Goals as goal

pub returns-then-clobs_named : goal.returns-then-clobs_named
unfolding code_named
returns-then-clobs_named c = search rules

pub returns-else-clobs_named : goal.returns-else-clobs_named
unfolding code_named
returns-else-clobs_named c = search rules
