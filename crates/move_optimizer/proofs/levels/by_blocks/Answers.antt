use native.Mathlib.Omega.{arith}
use Rattle.move_optimizer.proofs.Tables.{handed_few}
use Rattle.move_optimizer.proofs.levels.by_blocks.Goals as goal

pub returns-then-n-eq0 : goal.returns-then-n-eq0
returns-then-n-eq0 c = λ o. c.walk_in.ensures o (omega (arith, c.handed_blocks-n.ensures, c.if-n-eq0.true))

pub returns-then-n-le4 : goal.returns-then-n-le4
returns-then-n-le4 c = λ o. c.walk_in-then-n-le4.ensures o (omega (arith, c.handed_blocks-n.ensures, c.if-n-le4.true))

pub returns-then-n-le16 : goal.returns-then-n-le16
returns-then-n-le16 c = λ o. c.walk_in-then-n-le16.ensures o (omega (arith, c.handed_blocks-n.ensures, c.if-n-le16.true))

pub returns-else-n-le16 : goal.returns-else-n-le16
returns-else-n-le16 c = λ o. c.walk_in-else-n-le16.ensures o (omega (arith, handed_few c.args.level o.ready))
