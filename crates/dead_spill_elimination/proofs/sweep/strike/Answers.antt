use Rattle.std.proofs.Common.{◌∙◌}
use Rattle.dead_spill_elimination.proofs.Striking.{struck_dead, struck_kept}
use Rattle.dead_spill_elimination.proofs.sweep.strike.Goals as goal
use Rattle.dead_spill_elimination.proofs.sweep.strike.Goals.{then-is_dead, else-is_dead}

pub returns : goal.returns
returns c =
    elim c.if-is_dead.branch [
      | then-is_dead w ↦
          struck_dead _ _ _ _ _ c.unstruck-e.ensures c.is_dead.ensures c.before_edit.ensures w.if-is_dead.true (w.marks-is ∙ w.store.ensures) (λ f. w.counts-is ∙ w.count_struck.ensures f)
      | else-is_dead w ↦ struck_kept _ _ _ _ _ c.unstruck-e.ensures c.is_dead.ensures c.before_edit.ensures w.if-is_dead.false w.marks-is w.counts-is
    ]
