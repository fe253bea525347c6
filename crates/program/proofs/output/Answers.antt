use borrow.Author.Rules.{rules}
use Rattle.program.proofs.Printing.{prints_input}
use Rattle.program.proofs.output.Goals as goal

pub returns : goal.returns
returns c standard first = prints_input standard c.args.input.now _ c.args.read (search rules) first c.first.ensures c.program.ensures
