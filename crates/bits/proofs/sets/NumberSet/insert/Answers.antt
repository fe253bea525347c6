use mathlib.Core.Path.{ap}
use native.Mathlib.Omega.{arith}
use borrow.Author.Rules.{rules}
use Rattle.laws.proofs.Words.{insert_is, insert_out, words}
use Rattle.bits.specs.Sets.{made}
use Rattle.bits.proofs.sets.NumberSet.insert.Goals as goal

pub returns-then-i-lt-WORDS : goal.returns-then-i-lt-WORDS
returns-then-i-lt-WORDS c = ap made (insert_is _ _ (words (search rules) (λ i. search rules)) _ (omega arith))

pub returns-else-i-lt-WORDS : goal.returns-else-i-lt-WORDS
returns-else-i-lt-WORDS c = ap made (insert_out _ _ (words (search rules) (λ i. search rules)) _ (omega arith))
