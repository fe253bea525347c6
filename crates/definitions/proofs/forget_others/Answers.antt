use mathlib.Core.Path.{ap, ◌∙◌}
use mathlib.Core.Bool.{not}
use Rattle.record.specs.Flat.{record_of}
use Rattle.definitions.proofs.Loops.{rest_end}
use Rattle.definitions.proofs.Clobbering.{keep_past, turn_forgets, turn_keeps}
use Rattle.definitions.proofs.forget_others.Goals as goal
use Rattle.definitions.proofs.forget_others.Goals.{then-not-contains, else-not-contains}

pub loop-u-preserved : goal.loop-u-preserved
loop-u-preserved c =
    let h = c.loop-u-test.true in
    let inv = c.loop-u.invariant in
    elim c.if-not-contains.branch [
      | then-not-contains w ↦ turn_forgets _ _ _ _ h c.contains.ensures inv (ap not w.if-not-contains.true) (ap record_of w.rec-is ∙ w.forget_unit.ensures)
      | else-not-contains w ↦ turn_keeps _ _ _ _ h c.contains.ensures inv (ap not w.if-not-contains.false) (ap record_of w.rec-is)
    ]

pub returns : goal.returns
returns c = rest_end _ (keep_past _ _ _ c.loop-u-test.false) c.loop-u.invariant
