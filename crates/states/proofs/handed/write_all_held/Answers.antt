use Rattle.rules.specs.Sheet.{reg_count}
use mathlib.Core.Path.{◌≡◌, refl}
use native.Mathlib.Omega.{arith}
use Rattle.laws.specs.Fold.{run}
use Rattle.laws.specs.Lists.{from}
use Rattle.table.specs.Sheet.{sheet_in}
use Rattle.record.specs.Flat.{record_of}
use Rattle.table.proofs.Sheets.{regs_are, long_of}
use Rattle.states.proofs.TakingIn.{writes_next}
use Rattle.states.proofs.handed.write_all_held.Goals as goal

pub loop-r-init : goal.loop-r-init
unfolding run from
loop-r-init c = refl

pub loop-r-preserved : goal.loop-r-preserved
loop-r-preserved c = let x = c.args in let g = c.loop-r in writes_next (sheet_in x.t.now) (record_of x.rec.now) _ _ g.r g.invariant c.write_held.ensures

pub returns : goal.returns
returns c = let x = c.args in let g = c.loop-r in let e : g.r ≡ reg_count (sheet_in x.t.now) = omega (arith, c.count-r-end.ensures, long_of (regs_are x.t.now)) in rw e at g.invariant
