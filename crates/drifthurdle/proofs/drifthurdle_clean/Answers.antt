use mathlib.Core.Path.{◌∙◌}
use native.Mathlib.Omega.{arith}
use mir.Facts.{to_z_pos, to_z-of_z}
use mir.Syntax.{w64}
use borrow.Author.Rules.{rules, sfits_of}
use Rattle.drifthurdle.proofs.Refusing.{fits_in, number_refused, number_written}
use Rattle.drifthurdle.proofs.drifthurdle_clean.Goals as goal

pub overflow_cast-result : goal.overflow_cast-result
overflow_cast-result c = sfits_of (omega (arith, fits_in _ _ _ _ c.clean.ensures.0 c.in-Ok.is))

pub returns-in-Err : goal.returns-in-Err
returns-in-Err c = let k = c.clean.ensures in (number_refused _ k.0 c.in-Err.is (to_z-of_z {w = w64} (search rules) ∙ c.refused.ensures), k.1)

pub returns-in-Ok : goal.returns-in-Ok
returns-in-Ok c =
    let k = c.clean.ensures in
    (number_written _ k.0 c.in-Ok.is (to_z_pos w64 (omega (arith, fits_in _ _ _ _ k.0 c.in-Ok.is))), k.1)
