use native.Mathlib.Omega.{arith}
use Rattle.drifthurdle.proofs.clean_by.Goals as goal

pub returns : goal.returns
returns g c = λ h. c.clean_in.ensures (omega (arith, h))
