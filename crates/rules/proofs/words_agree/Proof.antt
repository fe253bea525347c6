-- The code's words are the cells that `word` finds, by computing.
use borrow.Author.Rules.{rules}
use Rattle.rules.specs.Rows.{reading}
use Rattle.rules.proofs.words_agree.Statement.{statement}
use Rattle.rules.proofs.words_agree.Tie as tie

returns : tie.Need-returns
unfolding reading
returns c = search rules

pub words_agree_spec : {M : Type 1} → statement M
words_agree_spec = tie.close (tie.spec returns)
