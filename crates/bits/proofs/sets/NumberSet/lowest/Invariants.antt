use mathlib.Core.Path.{◌≡◌}
use mathlib.Core.Bool.{false}
use Prim.Native.Nat.{ℕ, ◌<◌, ◌*◌}
use Rattle.bits.specs.Sets.{has}
use Rattle.bits.proofs.sets.NumberSet.lowest.Given as goal

abbrev pub invariant-loop-i : goal.invariant-loop-i
invariant-loop-i l = (k : ℕ) → k < l.i * 64 → has l.self k ≡ false
