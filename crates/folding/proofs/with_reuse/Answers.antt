use Rattle.folding.proofs.Telling.{no_reuse, one_reuse}
use Rattle.folding.proofs.with_reuse.Goals as goal

pub returns-in-Reuse : goal.returns-in-Reuse
returns-in-Reuse c = one_reuse c.args.s c.in-Reuse.is c.insert.ensures

pub returns-in_default : goal.returns-in_default
returns-in_default c = no_reuse c.args.c c.in_default.not-Reuse
