use mathlib.Core.Path.{◌∙◌}
use Rattle.names.proofs.Sets.{in_turn}
use Rattle.names.proofs.lists.is_in.Goals as goal

pub returns : goal.returns
returns c = c.contains.ensures.value ∙ in_turn c.args.x c.args.list.now
