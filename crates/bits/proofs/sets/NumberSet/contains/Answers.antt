use mathlib.Core.Path.{sym}
use native.Mathlib.Omega.{arith}
use borrow.Author.Rules.{rules}
use Rattle.laws.specs.Digits.{has_in}
use Rattle.laws.proofs.Bit.{bit_test}
use Rattle.laws.proofs.Words.{has_out, words}
use Rattle.bits.proofs.sets.NumberSet.contains.Goals as goal

pub returns-then-i-lt-WORDS : goal.returns-then-i-lt-WORDS
unfolding has_in
returns-then-i-lt-WORDS c = bit_test _ _

pub returns-else-i-lt-WORDS : goal.returns-else-i-lt-WORDS
unfolding has_in
returns-else-i-lt-WORDS c = sym (has_out 4 c.args.self.words (words (search rules) (λ i. search rules)) _ (omega arith))
