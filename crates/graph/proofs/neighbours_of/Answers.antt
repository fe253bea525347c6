use Rattle.graph.proofs.Stretches.{neighbours_by}
use Rattle.graph.proofs.neighbours_of.Goals as goal

pub returns : goal.returns
returns c = neighbours_by _ _ _ _ _ _ _ c.stretch-succs.ensures c.stretch-preds.ensures c.neighbours_at.ensures c.neighbours.ensures
