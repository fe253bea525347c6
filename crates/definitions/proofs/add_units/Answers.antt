use mathlib.Core.List.{[], ◌∷◌}
use lib.ListN.{get_or}
use Rattle.definitions.proofs.Loops.{gather_next, gather_end, with_one, with_as}
use Rattle.laws.proofs.Lists.{drop_step, drop_end}
use Rattle.definitions.proofs.add_units.Goals as goal

pub loop-u-preserved : goal.loop-u-preserved
loop-u-preserved c = gather_next (get_or c.units-u-items.result.now c.loop-u.u-index 0 ∷ []) (drop_step _ _ c.loop-u-test.true) c.loop-u.invariant (with_one _ c.insert-s.ensures)

pub returns : goal.returns
returns c = with_as c.units-u-items.ensures (gather_end (drop_end _ _ c.loop-u-test.false) c.loop-u.invariant)
