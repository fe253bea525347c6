use mathlib.Core.Path.{◌∙◌}
use Rattle.accept.proofs.Pairing.{shared_none, seen_next, shared_next, shared_end}
use Rattle.accept.proofs.edits.shared_units.Goals as goal

pub loop-r-init : goal.loop-r-init
loop-r-init c = ((shared_none _ _ c.empty-seen.ensures).0, (shared_none _ _ c.empty-shared.ensures).1)

pub loop-r-preserved : goal.loop-r-preserved
loop-r-preserved c = let i = c.loop-r.invariant in (
  seen_next _ _ c.empty.ensures c.units.ensures c.with_all-own.ensures i.0 c.join-seen.ensures,
  shared_next _ _ c.empty.ensures c.units.ensures c.with_all-own.ensures i.0 i.1 c.meet.ensures c.join-shared.ensures,
)

pub returns : goal.returns
returns c = c.of.ensures ∙ shared_end _ _ _ _ c.count-r-end.ensures c.loop-r.auto.r-end c.loop-r-test.false c.loop-r.invariant.1
