use borrow.Author.Rules.{rules}
use Rattle.rules.specs.Accept.{names_hold}
use Rattle.names.proofs.names.names_hold.Goals as goal

pub returns-then-none_twice : goal.returns-then-none_twice
unfolding names_hold
returns-then-none_twice c = λ w. search rules

pub returns-else-none_twice : goal.returns-else-none_twice
unfolding names_hold
returns-else-none_twice c = λ w. search rules
