use Rattle.accept.proofs.Heads.{loaded_end}
use Rattle.accept.proofs.constraints.load_heads.Goals as goal

pub returns : goal.returns
returns c = loaded_end c.count-g-end.ensures c.loop-g.invariant c.loop-g.auto.heads c.loop-g.auto.g-end c.loop-g-test.false
