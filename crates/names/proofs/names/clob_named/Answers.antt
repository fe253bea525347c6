use borrow.Author.Rules.{rules}
use Rattle.rules.specs.Sheet.{list_row}
use Rattle.names.proofs.names.clob_named.Goals as goal

pub returns-then-read-insts : goal.returns-then-read-insts
unfolding list_row
returns-then-read-insts c = search rules

pub returns-else-read-insts : goal.returns-else-read-insts
unfolding list_row
returns-else-read-insts c = search rules
