use Rattle.accept.proofs.Heads.{heads_known}
use Rattle.accept.proofs.constraints.operands_hold.Goals as goal

pub returns : goal.returns
returns c = λ g. c.all_hold.ensures (heads_known _ _ _ c.load_heads.ensures c.count.ensures c.part.ensures g) g
