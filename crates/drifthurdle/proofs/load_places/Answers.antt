use mathlib.Core.Path.{◌≡◌}
use native.Mathlib.Omega.{arith}
use Rattle.table.specs.Rows.{count_in}
use Rattle.drifthurdle.proofs.Loading.{places_next}
use Rattle.drifthurdle.proofs.load_places.Goals as goal

pub loop-n-preserved : goal.loop-n-preserved
loop-n-preserved c = λ r. places_next _ _ (omega arith) c.row_of.ensures c.read.ensures c.store.ensures (c.loop-n.invariant r)

pub returns : goal.returns
returns c = λ r. let e : c.loop-n.n ≡ count_in c.args.t.now 10 = omega arith in rw e at (c.loop-n.invariant r)
