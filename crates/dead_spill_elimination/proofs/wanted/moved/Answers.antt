use mathlib.Core.Path.{sym, ◌∙◌}
use Rattle.dead_spill_elimination.proofs.Members.{moved_hit, moved_miss}
use Rattle.dead_spill_elimination.proofs.wanted.moved.Goals as goal

pub returns-then-contains : goal.returns-then-contains
returns-then-contains c = λ A. moved_hit _ _ _ A _ _ (sym c.contains.ensures ∙ c.if-contains.true) c.remove.ensures c.with_place.ensures

pub returns : goal.returns
returns c = λ A l h. moved_miss _ A _ _ (sym c.contains.ensures ∙ c.if-contains.false) h
