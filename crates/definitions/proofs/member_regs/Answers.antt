use Rattle.definitions.proofs.Defining.{regs_headed}
use Rattle.definitions.proofs.member_regs.Goals as goal

pub returns : goal.returns
returns c = regs_headed _ _ _ c.class_or_first.ensures c.group_headed.ensures c.group_regs.ensures
