use Rattle.accept.proofs.Heads.{head_row}
use Rattle.accept.proofs.constraints.head_in.Goals as goal

pub returns : goal.returns
returns c = head_row _ c.group_regs-regs.ensures c.group_class-class.ensures c.read.ensures c.head.ensures
