use borrow.Author.Rules.{rules}
use Rattle.table.proofs.Sheets.{long_of, regs_are}
use Rattle.names.proofs.names.class_named.Goals as goal

pub returns : goal.returns
returns c = let l = long_of (regs_are c.args.t.now) in search rules
