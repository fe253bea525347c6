use borrow.Author.Rules.{rules}
use Rattle.rules.specs.Sheet.{list_row}
use Rattle.table.proofs.Sheets.{long_of, blocks_are}
use Rattle.names.proofs.names.edge_named.Goals as goal

pub returns-then-block_exists : goal.returns-then-block_exists
unfolding list_row
returns-then-block_exists c = let l = long_of (blocks_are c.args.t.now) in search rules

pub returns-else-block_exists : goal.returns-else-block_exists
unfolding list_row
returns-else-block_exists c = search rules
