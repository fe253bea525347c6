use mathlib.Core.Path.{◌≡◌}
use native.Mathlib.Omega.{arith}
use Rattle.rules.specs.Sheet.{block_count}
use Rattle.table.specs.Sheet.{sheet_in}
use Rattle.table.proofs.Sheets.{blocks_are, long_of}
use Rattle.states.proofs.Starting.{start_none, forward_starts}
use Rattle.states.proofs.starts.forward_start.Goals as goal

pub loop-b-init : goal.loop-b-init
loop-b-init c = λ g m u. start_none _ m _ u

pub loop-b-preserved : goal.loop-b-preserved
loop-b-preserved c = λ g m u. c.empty_at.ensures g m (c.loop-b.invariant g m u)

pub returns : goal.returns
returns c = let x = c.args in let k = c.loop-b in let e : k.b ≡ block_count (sheet_in x.t.now) = omega (arith, c.count-b-end.ensures, long_of (blocks_are x.t.now)) in λ g u w z. forward_starts (sheet_in x.t.now) k.states w (rw e at (k.invariant g (block_count (sheet_in x.t.now)) u)) z
