use borrow.Author.Rules.{rules}
use Rattle.rules.specs.Accept.{constraint_exists}
use Rattle.names.proofs.names.constraint_exists.Goals as goal

pub returns-in-Class : goal.returns-in-Class
unfolding constraint_exists
returns-in-Class c = search rules

pub returns-in-Fixed : goal.returns-in-Fixed
unfolding constraint_exists
returns-in-Fixed c = search rules

pub returns-in-Reuse : goal.returns-in-Reuse
unfolding constraint_exists
returns-in-Reuse c = search rules
