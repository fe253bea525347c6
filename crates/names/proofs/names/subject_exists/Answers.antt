use borrow.Author.Rules.{rules}
use Rattle.rules.specs.Accept.{subject_exists}
use Rattle.names.proofs.names.subject_exists.Goals as goal

pub returns-in-NonAllocatable : goal.returns-in-NonAllocatable
unfolding subject_exists
returns-in-NonAllocatable c = search rules

pub returns-in-DefGroup : goal.returns-in-DefGroup
unfolding subject_exists
returns-in-DefGroup c = search rules

pub returns-in-Def : goal.returns-in-Def
unfolding subject_exists
returns-in-Def c = search rules
