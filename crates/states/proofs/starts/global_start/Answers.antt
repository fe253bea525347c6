use mathlib.Core.Path.{◌≡◌}
use native.Mathlib.Omega.{arith}
use Rattle.rules.specs.Sheet.{block_count}
use Rattle.rules.specs.Accept.{is_entry}
use Rattle.table.specs.Sheet.{sheet_in}
use Rattle.table.proofs.Sheets.{blocks_are, long_of}
use Rattle.states.proofs.Starting.{start_none, waits_none, global_starts}
use Rattle.states.proofs.starts.global_start.Goals as goal

pub loop-b-init : goal.loop-b-init
loop-b-init c = ((λ m u. start_none _ m _ u), waits_none (is_entry (sheet_in c.args.t.now)) c.empty-w.result.0 c.empty-w.ensures)

pub loop-b-preserved : goal.loop-b-preserved
loop-b-preserved c = let k = c.loop-b in ((λ m u. c.entry_at-w.ensures.started m (k.invariant.0 m u)), c.entry_at-w.ensures.waits k.invariant.1)

pub returns : goal.returns
returns c = let x = c.args in let k = c.loop-b in let e : k.b ≡ block_count (sheet_in x.t.now) = omega (arith, c.count-b-end.ensures, long_of (blocks_are x.t.now)) in λ g u. global_starts (sheet_in x.t.now) k.states k.w.0 (rw e at (k.invariant.0 (block_count (sheet_in x.t.now)) u)) (rw e at k.invariant.1)
