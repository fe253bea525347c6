use Prim.Native.Nat.{◌+◌, ◌*◌}
use mathlib.Core.Path.{ap}
use Rattle.entity.specs.declared.forms.Told.{Told}
use Rattle.entity.proofs.forms.Refusal.sum.Goals as goal

pub returns : goal.returns
returns c = ap (λ (x : Told). 100 * x.row + x.number) c.told-told.ensures
