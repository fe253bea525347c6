use borrow.Author.Rules.{rules}
use Rattle.rules.specs.Accept.{place_exists}
use Rattle.names.proofs.names.place_exists.Goals as goal

pub returns-in-Reg : goal.returns-in-Reg
unfolding place_exists
returns-in-Reg c = search rules

pub returns-in-Slot : goal.returns-in-Slot
unfolding place_exists
returns-in-Slot c = search rules
