use Rattle.std.proofs.Common.{rules}
use mathlib.Core.Path.{refl, sym, ◌∙◌}
use Rattle.rules.specs.Text.{bytes}
use Rattle.answer.proofs.Laying.{laid_then}
use Rattle.answer.proofs.Refused.{row_laid}
use native.Mathlib.Omega.{arith}
use Rattle.answer.proofs.rows.render_refused.Goals as goal

pub returns : goal.returns
unfolding bytes
returns c =
    let l = laid_then c.text.ensures (laid_then c.number.ensures c.end.ensures) in
    let x = row_laid _ c.sum.ensures (omega arith) refl l in
    let k = sym l.kept in
    (x.0, search rules ∙ x.1, x.2)
