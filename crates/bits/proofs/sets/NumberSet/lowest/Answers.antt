use mathlib.Core.Path.{sym}
use native.Mathlib.Nat.{le_refl, le_of_lt}
use native.Mathlib.Omega.{arith}
use Rattle.laws.proofs.First.{first_at, first_none}
use Rattle.laws.proofs.Words.{below_word, at_lowest}
use Rattle.bits.proofs.sets.NumberSet.lowest.Goals as goal

pub loop-i-init : goal.loop-i-init
loop-i-init c = λ k h. absurd (omega arith)

pub returns-then-t-lt64 : goal.returns-then-t-lt64
returns-then-t-lt64 c = sym (first_at _ _ _ 0 _ _ (omega arith) (omega arith) (at_lowest _ _ c.if-t-lt64.true) (λ k a b. below_word _ _ _ c.loop-i.invariant (le_refl _) (le_of_lt c.if-t-lt64.true) k b))

pub loop-i-preserved : goal.loop-i-preserved
loop-i-preserved c = λ k h. below_word _ _ 64 c.loop-i.invariant c.if-t-lt64.false (le_refl 64) k (omega arith)

pub returns : goal.returns
returns c = sym (first_none _ _ _ 0 _ (λ k a b. c.loop-i.invariant k (omega arith)))
