use mathlib.Core.Path.{refl}
use Rattle.laws.specs.Lists.{is_in}
use Rattle.laws.proofs.Words.{Words, words}
use Rattle.names.proofs.Sets.{grow_next, grow_end}
use borrow.Author.Rules.{rules}
use Rattle.names.proofs.lists.with_all.Goals as goal

pub loop-x-init : goal.loop-x-init
unfolding is_in
loop-x-init c = let w : Words 4 c.args.s.words = words (search rules) (λ i. search rules) in record { set = (w.long, w.each); rest = refl }

pub loop-x-preserved : goal.loop-x-preserved
unfolding is_in
loop-x-preserved c = grow_next c.loop-x.invariant 0 c.loop-x-test.true c.insert-grown.ensures

pub returns : goal.returns
unfolding is_in
returns c = grow_end c.loop-x.invariant c.loop-x-test.false
