use Rattle.accept.proofs.Reaching.{grown_hit, grown_miss, grown_end}
use Rattle.accept.specs.Blocks.{grown}
use mathlib.Core.Path.{sym, refl, ◌∙◌}
use Rattle.accept.proofs.blocks.further.Goals as goal
use Rattle.accept.proofs.blocks.further.Goals.{then-contains, else-contains}

pub loop-b-init : goal.loop-b-init
unfolding grown
loop-b-init c = λ g. refl

pub loop-b-preserved : goal.loop-b-preserved
loop-b-preserved c = λ g. elim c.if-contains.branch [
  | then-contains w ↦ w.all-is ∙ grown_hit _ _ _ _ _ _ (c.loop-b.invariant g) (sym c.contains.ensures ∙ w.if-contains.true) (w.succs.ensures g) w.with_all-all.ensures
  | else-contains w ↦ w.all-is ∙ grown_miss _ _ _ _ (c.loop-b.invariant g) (sym c.contains.ensures ∙ w.if-contains.false)
]

pub returns : goal.returns
returns c = λ g. c.of.ensures ∙ grown_end _ _ _ _ _ c.count-b-end.ensures c.loop-b.auto.b-end c.loop-b-test.false (c.loop-b.invariant g)
