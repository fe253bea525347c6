use mathlib.Core.Path.{◌∙◌}
use Rattle.names.proofs.Naming.{slot_there, slot_absent}
use Rattle.names.proofs.names.home_named.Goals as goal

pub returns-in-Some : goal.returns-in-Some
returns-in-Some c = c.slot_exists.ensures ∙ slot_there _ _ c.home.ensures c.in-Some.is

pub returns-in-None : goal.returns-in-None
returns-in-None c = slot_absent _ _ c.home.ensures c.in-None.is
