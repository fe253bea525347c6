use Prim.Native.Nat.{ℕ}
use mathlib.Core.Path.{◌∙◌, ap}
use native.Mathlib.Omega.{arith}
use lib.IntN.{pos, neg_ℤ}
use mir.Facts.{to_z-of_z}
use Rattle.drifthurdle.proofs.Refusing.{minus_is, minus_fits}
use Rattle.drifthurdle.proofs.refused.Goals as goal

pub overflow_sub-result : goal.overflow_sub-result
overflow_sub-result c = minus_fits c.sum.result (omega arith)

pub returns : goal.returns
returns c = to_z-of_z (minus_fits c.sum.result (omega arith)) ∙ minus_is c.sum.result (omega arith) ∙ ap (λ (n : ℕ). neg_ℤ (pos n)) c.sum.ensures
