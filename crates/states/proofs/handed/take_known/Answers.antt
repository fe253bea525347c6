use mathlib.Core.Path.{◌≡◌, refl, sym, ◌∙◌}
use native.Mathlib.Omega.{arith}
use Rattle.states.specs.Layout.{known_size}
use Rattle.states.proofs.Spans.{span_store}
use Rattle.states.proofs.Cells.{fits_room}
use Rattle.states.proofs.TakingIn.{taken}
use Rattle.states.proofs.handed.take_known.Goals as goal

pub bounds-states-at : goal.bounds-states-at
bounds-states-at c = let x = c.args in omega (arith, fits_room x.states.now x.b.0 (sym c.fits.ensures ∙ c.if-fits.true))

pub loop-i-preserved : goal.loop-i-preserved
loop-i-preserved c = span_store _ _ _ _ _ _ c.loop-i.invariant refl (omega arith)

pub returns-after-loop-i : goal.returns-after-loop-i
returns-after-loop-i c = let e : c.loop-i.i ≡ known_size = omega arith in λ h. taken _ _ (omega arith) _ _ h (rw e at c.loop-i.invariant)
