use lib.Dec.{eqb}
use mathlib.Core.Bool.{cond}
use Rattle.laws.proofs.Lists.{MapTo}
use Rattle.rules.specs.Record.{absent}
use Rattle.record.proofs.flat.WalkRecord.drop_value.Given as goal

abbrev pub invariant-loop-x : goal.invariant-loop-x
invariant-loop-x l = MapTo 0 (λ _ x. cond (eqb x l.v.0) absent x) l.initial.x-items l.x-index l.x-items
