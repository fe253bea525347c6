use mathlib.Core.Path.{refl, ap, ◌∙◌}
use native.Mathlib.Omega.{arith}
use borrow.Author.Rules.{rules}
use Rattle.laws.proofs.Lists.{map_none, map_store}
use Rattle.laws.proofs.Words.{meet_is, words}
use Rattle.bits.specs.Sets.{made}
use Rattle.bits.proofs.sets.NumberSet.meet.Goals as goal

pub loop-i-init : goal.loop-i-init
loop-i-init c = map_none _ _ _

pub loop-i-preserved : goal.loop-i-preserved
loop-i-preserved c = map_store _ _ _ _ _ c.loop-i.invariant _ refl (search rules)

pub returns : goal.returns
returns c = ap made (meet_is _ _ _ _ (words (search rules) (λ i. search rules)) (c.loop-i.invariant.long ∙ search rules) (λ i h. c.loop-i.invariant.done i (omega arith)))
