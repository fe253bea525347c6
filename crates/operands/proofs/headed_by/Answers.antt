use Rattle.operands.proofs.Heading.{other_class, of_class}
use Rattle.operands.proofs.headed_by.Goals as goal

pub returns-then-read-c : goal.returns-then-read-c
returns-then-read-c c = of_class _ _ _ _ c.row_of-row.ensures c.read.ensures c.if-read-c.true c.read-then-read-c.ensures

pub returns-else-read-c : goal.returns-else-read-c
returns-else-read-c c = other_class _ _ _ _ c.row_of-row.ensures c.read.ensures c.if-read-c.false
