use Prim.Native.Nat.{◌^◌}
use lib.ListN.{length}
use Rattle.rules.specs.Function.{Func}
use Rattle.dead_spill_elimination.specs.Worklist.{Facts}
use Rattle.dead_spill_elimination.proofs.Sums.{weight}
use Rattle.dead_spill_elimination.proofs.Settling.{Good, Inv}
use Rattle.dead_spill_elimination.proofs.ends.settle.Given as goal

abbrev pub invariant-loop-b : goal.invariant-loop-b
invariant-loop-b l = Good (length l.initial.wait) l.ends l.wait × ((f : Func) → Facts l.t l.edits l.touched f (length l.initial.wait) → Inv l.t l.edits l.touched (length l.initial.wait) f l.ends l.wait)

abbrev pub decreases-loop-b : goal.decreases-loop-b
decreases-loop-b l = weight (2 ^ 64) l.ends l.wait
