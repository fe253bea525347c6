use mathlib.Core.Path.{sym, ◌∙◌}
use native.Mathlib.Omega.{arith}
use Prim.Native.Nat.{◌+◌, ◌-◌, ◌≤◌}
use lib.ListN.{length, set, length-set}
use Rattle.states.specs.Layout.{known_size, state_at}
use Rattle.rules.specs.Record.{absent}
use Rattle.states.proofs.Spans.{span_filled}
use Rattle.states.proofs.Cells.{fits_room, marked, unset_sets}
use Rattle.states.proofs.FirstStates.{nothing_known}
use Rattle.states.proofs.handed.set_nothing.Goals as goal

pub returns-then-fits : goal.returns-then-fits
returns-then-fits c = let x = c.args in
    let e = sym c.fits.ensures ∙ c.if-fits.true in
    let at = state_at x.b.0 in
    let m = set x.states.now x.b.0 1 in
    let room : at + known_size ≤ length m = omega (arith, fits_room x.states.now x.b.0 e, length-set x.states.now x.b.0 1) in
    let p = span_filled at absent m c.fill.new.self {n = at + known_size - at} known_size (omega arith) room (c.fill.ensures.after (λ y k. k)) in
    marked (λ j. absent) _ _ _ _ e p (λ q. nothing_known _ _ _ q p)

pub returns-else-fits : goal.returns-else-fits
returns-else-fits c = unset_sets _ _ _ (sym c.fits.ensures ∙ c.if-fits.false)
