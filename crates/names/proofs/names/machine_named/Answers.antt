use borrow.Author.Rules.{rules}
use Rattle.names.specs.Steps.{machine_named}
use Rattle.names.proofs.names.machine_named.Goals as goal

pub returns-then-homes_named : goal.returns-then-homes_named
unfolding machine_named
returns-then-homes_named c = search rules

pub returns-else-homes_named : goal.returns-else-homes_named
unfolding machine_named
returns-else-homes_named c = search rules
