use mathlib.Core.Path.{◌≡◌, sym, ap, ◌∙◌}
use Prim.Native.Nat.{◌+◌, ◌<◌}
use native.Mathlib.Omega.{arith}
use lib.ListN.{length, get_or, set, length-set}
use Rattle.record.specs.Layout.{held_at}
use Rattle.record.specs.Flat.{record_of}
use Rattle.record.proofs.Parts.{length-section}
use Rattle.states.specs.Layout.{known_size, state_at}
use Rattle.states.specs.States.{handed_in}
use Rattle.states.proofs.Spans.{span_store, section_at}
use Rattle.states.proofs.Cells.{fits_room, marked, unset_sets}
use Rattle.states.proofs.FirstStates.{first_known}
use Rattle.states.proofs.handed.first_state.Goals as goal

pub loop-i-preserved : goal.loop-i-preserved
loop-i-preserved c = let x = c.args in
    let i = c.loop-i.i in
    let h : i < known_size = omega (arith, length-section x.rec.now.cells held_at known_size (omega arith)) in
    let room : state_at x.b.0 + i < length (set x.states.now x.b.0 1) = omega (arith, fits_room x.states.now x.b.0 (sym c.fits.ensures ∙ c.if-fits.true), length-set x.states.now x.b.0 1) in
    span_store _ _ _ _ _ _ c.loop-i.invariant (c.handed.ensures ∙ ap (handed_in (record_of x.rec.now) x.sole x.b.0) (section_at x.rec.now.cells held_at known_size (omega arith) i h)) room

pub returns-after-loop-i : goal.returns-after-loop-i
returns-after-loop-i c = let a = c.args in
    let e : c.loop-i.i ≡ known_size = omega (arith, length-section a.rec.now.cells held_at known_size (omega arith)) in
    let p = rw e at c.loop-i.invariant in
    λ sh. marked (λ j. handed_in (record_of a.rec.now) a.sole a.b.0 (get_or a.rec.now.cells (held_at + j) 0)) _ _ _ _ (sym c.fits.ensures ∙ c.if-fits.true) p (λ q. first_known _ _ _ q sh a.rec.now.cells (omega arith) a.sole a.b.0 p)

pub returns-else-fits : goal.returns-else-fits
returns-else-fits c = λ sh. unset_sets _ _ _ (sym c.fits.ensures ∙ c.if-fits.false)
