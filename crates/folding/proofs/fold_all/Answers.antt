use mathlib.Core.Path.{refl}
use native.Mathlib.Omega.{arith}
use Rattle.folding.proofs.Instructions.{rows_none, rows_on, rows_end, rows_stay}
use Rattle.folding.proofs.fold_all.Goals as goal

pub returns-then-not-x : goal.returns-then-not-x
returns-then-not-x c = rows_stay c.args.classes.now c.if-not-x.true

pub loop-n-init : goal.loop-n-init
loop-n-init c = let a = c.args in (omega arith, rows_none a.t.now a.rec.now a.classes.now a.places.now a.counts.now a.x.reused a.rows)

pub loop-n-preserved : goal.loop-n-preserved
loop-n-preserved c = (omega arith, rows_on c.loop-n.invariant.1 c.saturating_sub-k.ensures c.contains-tied.ensures c.fold.ensures (omega arith) (omega arith))

pub returns : goal.returns
returns c = λ r f i e q. rows_end c.loop-n.invariant.1 (omega arith) (omega arith) (omega arith) r f i e c.args.x refl q
