use native.Mathlib.Omega.{arith}
use Rattle.drifthurdle.proofs.cleaned_by.Goals as goal

pub returns : goal.returns
returns g c = λ r n x y. c.cleaned_in.ensures r n (omega (arith, x)) (omega (arith, y))
