use Rattle.laws.proofs.Words.{Words, words}
use native.Mathlib.Omega.{arith}
use Rattle.dead_spill_elimination.proofs.Tell.{word_of_set}
use borrow.Author.Rules.{rules}
use Rattle.dead_spill_elimination.proofs.ends.word_of.Goals as goal

pub returns : goal.returns
returns c = let w : Words 4 c.args.s.0.words = words (search rules) (λ i. search rules) in λ A e. word_of_set _ A (w.each 0 (omega arith)) e
