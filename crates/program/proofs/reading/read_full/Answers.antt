use borrow.Author.Rules.{rules}
use Rattle.program.proofs.Filling.{read_on}
use Rattle.program.proofs.reading.read_full.Goals as goal

pub loop-n-preserved : goal.loop-n-preserved
loop-n-preserved g c =
    (search rules, search rules, read_on _ _ _ c.loop-n.buf _ _ _ c.read_at.ensures.front c.loop-n.invariant.2 c.in-Ok.ensures.bytes)
