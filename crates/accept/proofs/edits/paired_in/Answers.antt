use Rattle.accept.proofs.Pairing.{pairs_start, pairs_next, pairs_stop, pairs_end}
use mathlib.Core.Option.{none}
use Rattle.rules.specs.Accept.{paired}
use mathlib.Core.Path.{◌∙◌, ap}
use Rattle.accept.proofs.edits.paired_in.Goals as goal

pub returns-in_default : goal.returns-in_default
returns-in_default c = λ g o. pairs_stop _ _ _ _ _ c.loop-n-test.true c.sheet_edit.ensures c.after.ensures c.loop-n.invariant c.in_default.is ∙ pairs_start _ ∙ ap (paired none) (c.edits_in-rows.ensures g o)

pub loop-n-preserved : goal.loop-n-preserved
loop-n-preserved c = pairs_next _ _ _ _ _ c.loop-n-test.true c.sheet_edit.ensures c.after.ensures c.loop-n.invariant c.in-Ok.is

pub returns : goal.returns
returns c = λ g o. pairs_end _ _ _ _ c.loop-n-test.false c.is_closed.ensures c.loop-n.invariant ∙ pairs_start _ ∙ ap (paired none) (c.edits_in-rows.ensures g o)
