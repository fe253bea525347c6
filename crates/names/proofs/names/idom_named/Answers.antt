use mathlib.Core.Path.{◌∙◌}
use Rattle.names.proofs.Naming.{block_there, block_absent}
use Rattle.names.proofs.names.idom_named.Goals as goal

pub returns-in-Some : goal.returns-in-Some
returns-in-Some c = c.block_exists.ensures ∙ block_there _ _ c.idom.ensures c.in-Some.is

pub returns-in-None : goal.returns-in-None
returns-in-None c = block_absent _ _ c.idom.ensures c.in-None.is
