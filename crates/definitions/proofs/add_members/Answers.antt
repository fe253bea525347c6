use mathlib.Core.Path.{ap}
use Rattle.std.proofs.lemmas.Slice.Zip.{either_empty_from_Zip}
use Rattle.definitions.specs.Definitions.{units_at}
use Rattle.definitions.proofs.Loops.{gather_start, gather_next, gather_end, zip_all, zip_done}
use Rattle.definitions.proofs.OwnUnits.{units_more, units_none}
use Rattle.definitions.proofs.add_members.Goals as goal

pub loop-r-init : goal.loop-r-init
loop-r-init c = gather_start _ (ap (units_at _) (zip_all _ c.into_iter-r-iterator.ensures.into_iter_gives c.zip-r-items.ensures.first c.iter.ensures.rest c.zip-r-items.ensures.second.0))

pub loop-r-preserved : goal.loop-r-preserved
loop-r-preserved c = gather_next _ (units_more _ c.in-Some.ensures.steps) c.loop-r.invariant c.add_units-s.ensures

pub returns : goal.returns
returns c = gather_end (units_none _ (zip_done _ (either_empty_from_Zip c.loop-r.r-iterator c.next.new.self _ c.in-None.is c.next.ensures.steps))) c.loop-r.invariant
