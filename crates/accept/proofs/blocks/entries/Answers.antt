use Rattle.accept.proofs.Reaching.{entries_hit, entries_miss, entries_end}
use Rattle.entity.specs.declared.sets.EntitySet.{EntitySet}
use Rattle.entity.specs.declared.numbers.Block.{Block}
use mathlib.Core.Path.{sym, ◌∙◌, ap}
use Rattle.accept.proofs.blocks.entries.Goals as goal
use Rattle.accept.proofs.blocks.entries.Goals.{then-is_entry, else-is_entry}

pub loop-b-preserved : goal.loop-b-preserved
loop-b-preserved c = elim c.if-is_entry.branch [
  | then-is_entry w ↦ ap (λ (x : EntitySet Block). x.0) w.s-is ∙ entries_hit _ _ _ _ c.loop-b.invariant (sym c.is_entry.ensures ∙ w.if-is_entry.true) w.insert-s.ensures
  | else-is_entry w ↦ ap (λ (x : EntitySet Block). x.0) w.s-is ∙ entries_miss _ _ _ c.loop-b.invariant (sym c.is_entry.ensures ∙ w.if-is_entry.false)
]

pub returns : goal.returns
returns c = λ g. entries_end _ _ _ _ c.count-b-end.ensures c.loop-b.auto.b-end c.loop-b-test.false c.loop-b.invariant
