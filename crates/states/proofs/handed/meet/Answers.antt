use mathlib.Core.Path.{◌≡◌, sym, ◌∙◌}
use Prim.Native.Nat.{◌+◌, ◌<◌}
use native.Mathlib.Omega.{arith}
use lib.ListN.{get_or}
use Rattle.record.specs.Layout.{held_at}
use Rattle.record.specs.Flat.{section}
use Rattle.record.proofs.Parts.{length-section}
use Rattle.states.specs.Layout.{known_size, state_at}
use Rattle.states.proofs.Meeting.{met_next, met, unmet}
use Rattle.states.proofs.Spans.{section_at}
use Rattle.states.proofs.Cells.{fits_room}
use Rattle.states.proofs.handed.meet.Goals as goal

pub loop-i-preserved : goal.loop-i-preserved
loop-i-preserved c = let a = c.args in
    let k = c.loop-i in
    let h : k.i < known_size = omega (arith, length-section a.rec.now.cells held_at known_size (omega arith)) in
    let q : get_or (section a.rec.now.cells held_at known_size) k.i 0 ≡ get_or a.rec.now.cells (held_at + k.i) 0 = section_at a.rec.now.cells held_at known_size (omega arith) k.i h in
    met_next a.rec.now.cells a.states.now (state_at a.b.0) _ _ _ _ _ k.invariant.0 k.invariant.1 (omega (arith, fits_room a.states.now a.b.0 (sym c.fits.ensures ∙ c.if-fits.true))) (rw q at c.both-l.ensures) c.gone-went.ensures

pub returns-after-loop-i : goal.returns-after-loop-i
returns-after-loop-i c = let a = c.args in let e : c.loop-i.i ≡ known_size = omega (arith, length-section a.rec.now.cells held_at known_size (omega arith)) in λ sh h. met sh a.rec.now.cells _ _ _ _ (omega arith) h (rw e at c.loop-i.invariant.0) (rw e at c.loop-i.invariant.1)

pub returns-else-fits : goal.returns-else-fits
returns-else-fits c = λ sh e. unmet _ c.args.rec.now.cells _ _ _ _ (omega arith) (sym c.fits.ensures ∙ c.if-fits.false) e
