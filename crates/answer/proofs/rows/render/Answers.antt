use Rattle.std.proofs.Common.{rules}
use mathlib.Core.Path.{refl, sym, ◌∙◌}
use Rattle.answer.proofs.Answer.{answered}
use Rattle.answer.specs.Rows.{rendered}
use Rattle.answer.proofs.Laying.{laid_then}
use Rattle.answer.proofs.rows.render.Goals as goal

pub returns : goal.returns
unfolding rendered
returns c w stands =
    let l = laid_then (laid_then c.folds.ensures c.edits.ensures) c.counts.ensures in
    let x = answered _ _ _ _ (λ i. (c.type_inv.counts i).fits) refl l w stands in
    let k = sym l.kept in
    (x.0, search rules ∙ x.1)
