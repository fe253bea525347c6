use mathlib.Core.Bool.{false}
use mathlib.Core.Option.{none}
use native.Mathlib.Omega.{arith}
use Rattle.rules.specs.Sheet.{total_of}
use Rattle.table.specs.Sheet.{sheet_in}
use Rattle.table.proofs.Sheets.{long_of, blocks_are}
use Rattle.names.proofs.Totals.{total_step, total_end, over_capped, is_capped}
use Rattle.names.proofs.limits.inst_total.Goals as goal

pub returns-then-sum-n : goal.returns-then-sum-n
returns-then-sum-n c = let l = long_of (blocks_are c.args.t.now) in over_capped (total_of (sheet_in c.args.t.now).blocks) (omega (arith, c.loop-b.invariant.1, c.inst_count-n.ensures, total_step (sheet_in c.args.t.now).blocks c.loop-b.b (record { instructions = 0; idom = none; entry = false }) (omega (arith, c.count-b-end.ensures))))

pub loop-b-preserved : goal.loop-b-preserved
loop-b-preserved c = let l = long_of (blocks_are c.args.t.now) in (omega arith, omega (arith, c.loop-b.invariant.1, c.inst_count-n.ensures, total_step (sheet_in c.args.t.now).blocks c.loop-b.b (record { instructions = 0; idom = none; entry = false }) (omega (arith, c.count-b-end.ensures))))

pub returns : goal.returns
returns c = let l = long_of (blocks_are c.args.t.now) in is_capped (total_of (sheet_in c.args.t.now).blocks) (omega (arith, c.loop-b.invariant.1, total_end (sheet_in c.args.t.now).blocks c.loop-b.b (omega (arith, c.count-b-end.ensures)))) c.loop-b.invariant.0
