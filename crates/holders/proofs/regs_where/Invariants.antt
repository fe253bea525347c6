use mathlib.Core.Path.{◌≡◌}
use mathlib.Core.Bool.{Bool, ◌&&◌}
use Prim.Native.Nat.{ℕ}
use lib.Dec.{ltb}
use Rattle.bits.specs.Sets.{set_of}
use Rattle.holders.proofs.regs_where.Given as goal

abbrev pub invariant-loop-r : goal.invariant-loop-r
invariant-loop-r g l = (f : ℕ → Bool) → ((r : _) (b : Bool) → goal.F-post g l.test r b → b ≡ f r.0) → l.s.0 ≡ set_of (λ k. ltb k l.r && f k)
