use Rattle.std.proofs.lemmas.Slice.Zip.{either_empty_from_Zip}
use mathlib.Core.Path.{ap}
use Rattle.laws.specs.Fold.{run}
use Rattle.rules.specs.Forward.{define_all}
use Rattle.definitions.proofs.Loops.{rest_next, rest_end, zip_all, zip_more, zip_done}
use Rattle.definitions.proofs.define_members.Goals as goal

pub loop-v-init : goal.loop-v-init
unfolding define_all
loop-v-init c = ap (run _ _) (zip_all _ c.into_iter-v-iterator.ensures.into_iter_gives c.zip-v-items.ensures.first c.iter.ensures.rest c.zip-v-items.ensures.second.0)

pub loop-v-preserved : goal.loop-v-preserved
unfolding define_all
loop-v-preserved c = rest_next _ (zip_more _ c.in-Some.ensures.steps) c.loop-v.invariant (rw c.reg.ensures at c.define.ensures)

pub returns : goal.returns
unfolding define_all
returns c = rest_end _ (zip_done _ (either_empty_from_Zip c.loop-v.v-iterator c.next.new.self _ c.in-None.is c.next.ensures.steps)) c.loop-v.invariant
