use borrow.Author.Rules.{rules}
use Rattle.program.proofs.Printing.{prints_refused, prints_written}
use Rattle.program.proofs.program.Goals as goal

pub returns-in-Err : goal.returns-in-Err
returns-in-Err c = prints_refused _ _ (search rules) c.clean.ensures.0 c.clean.ensures.1 c.in-Err.is c.render_refused.ensures

pub returns-in-Ok : goal.returns-in-Ok
returns-in-Ok c = prints_written _ _ (search rules) c.clean.ensures.0 c.clean.ensures.1 c.in-Ok.is
