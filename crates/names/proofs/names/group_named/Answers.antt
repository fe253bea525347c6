use Rattle.table.proofs.Sheets.{long_of, regs_are}
use borrow.Author.Rules.{rules}
use Rattle.names.proofs.names.group_named.Goals as goal

pub returns-then-class_exists : goal.returns-then-class_exists
returns-then-class_exists c = let l = long_of (regs_are c.args.t.now) in search rules
