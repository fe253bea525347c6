use mathlib.Core.Path.{sym, ◌∙◌}
use Rattle.names.proofs.Sets.{twice_start, twice_found, twice_next, twice_end}
use Rattle.names.proofs.lists.stands_twice.Goals as goal

pub loop-x-init : goal.loop-x-init
loop-x-init c = λ e. twice_start _ e c.empty-seen.ensures

pub returns-then-contains : goal.returns-then-contains
returns-then-contains c = λ e. sym (twice_found _ _ _ c.loop-x-test.true (sym c.contains.ensures ∙ c.if-contains.true)) ∙ c.loop-x.invariant e

pub loop-x-preserved : goal.loop-x-preserved
loop-x-preserved c = λ e. twice_next _ _ _ e c.loop-x-test.true (sym c.contains.ensures ∙ c.if-contains.false) c.insert-seen.ensures ∙ c.loop-x.invariant e

pub returns : goal.returns
returns c = λ e. sym (twice_end _ _ _ c.loop-x-test.false) ∙ c.loop-x.invariant e
