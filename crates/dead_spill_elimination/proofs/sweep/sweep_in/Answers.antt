use mathlib.Core.Path.{◌∙◌}
use Rattle.dead_spill_elimination.proofs.Whole.{swept}
use Rattle.dead_spill_elimination.proofs.sweep.sweep_in.Goals as goal

pub returns : goal.returns
returns c = λ places told h n m. swept h told _ m c.requires.unmarked _ _ n (c.settle.auto.ends ∙ c.requires.many) c.settle.ensures c.strike_all.ensures c.strike_all.auto.marks c.mark_cells.ensures
