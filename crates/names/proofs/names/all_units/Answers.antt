use mathlib.Core.Path.{◌∙◌}
use mathlib.Core.Bool.{false}
use mathlib.Core.List.{[]}
use native.Mathlib.Omega.{arith}
use Rattle.rules.specs.Accept.{unit_exists}
use Rattle.table.proofs.Sheets.{long_of, regs_are}
use Rattle.names.proofs.Sets.{grow_none, grow_next, grow_end, add_list}
use Rattle.names.proofs.names.all_units.Goals as goal

pub loop-r-init : goal.loop-r-init
unfolding unit_exists
loop-r-init c = grow_none _ _ c.empty-seen.ensures

pub loop-r-preserved : goal.loop-r-preserved
unfolding unit_exists
loop-r-preserved c = let l = long_of (regs_are c.args.t.now) in grow_next c.loop-r.invariant (record { memory = false; units = [] }) (omega (arith, c.count-r-end.ensures)) (c.with_all-seen.ensures ∙ add_list _ c.units.ensures)

pub returns : goal.returns
unfolding unit_exists
returns c = c.of.ensures ∙ let l = long_of (regs_are c.args.t.now) in grow_end c.loop-r.invariant (omega (arith, c.count-r-end.ensures))
