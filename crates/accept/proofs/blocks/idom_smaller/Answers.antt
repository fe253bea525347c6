use Rattle.accept.proofs.Blockwise.{idom_none, idom_some}
use Rattle.accept.proofs.blocks.idom_smaller.Goals as goal

pub returns-in_default : goal.returns-in_default
returns-in_default c = idom_none _ _ c.idom.ensures c.in_default.is

pub returns : goal.returns
returns c = idom_some _ _ c.idom.ensures _ c.in-Some.is
