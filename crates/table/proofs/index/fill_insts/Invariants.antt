use mathlib.Core.Path.{◌≡◌}
use Prim.Native.Nat.{◌<◌}
use lib.ListN.{length}
use Rattle.table.proofs.Filling.{Summing}
use Rattle.table.proofs.index.fill_insts.Given as goal

abbrev pub invariant-loop-b : goal.invariant-loop-b
invariant-loop-b l = (length l.t ≡ length l.initial.t) × (l.sum < 65536) × Summing l.b l.sum l.initial.t l.t
