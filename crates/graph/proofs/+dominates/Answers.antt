use mathlib.Core.Path.{◌∙◌}
use Rattle.graph.proofs.Dominance.{dominates_low, dominates_top, dominates_up, dominates_no}
use Rattle.graph.proofs.+dominates.Goals as goal

pub returns-then-b-a : goal.returns-then-b-a
returns-then-b-a t c = dominates_low _ _ _ c.if-b-a.true

pub returns-in_default : goal.returns-in_default
returns-in_default t c = dominates_top _ _ _ c.if-b-a.false c.idom.ensures c.in_default.is

pub returns-then-i-b : goal.returns-then-i-b
returns-then-i-b t c = c.dominates.ensures ∙ dominates_up _ _ _ c.if-b-a.false c.idom.ensures _ c.in-Some.is c.if-i-b.true

pub returns : goal.returns
returns t c = dominates_no _ _ _ c.if-b-a.false c.idom.ensures _ c.in-Some.is c.if-i-b.false
