use Rattle.definitions.proofs.Defining.{class_there, class_first}
use Rattle.definitions.proofs.class_or_first.Goals as goal

pub returns-in-Some : goal.returns-in-Some
returns-in-Some c = class_there _ c.class_for.ensures _ c.in-Some.is

pub returns-in-None : goal.returns-in-None
returns-in-None c = class_first _ c.class_for.ensures c.in-None.is
