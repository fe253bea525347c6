use native.Mathlib.Omega.{arith}
use Rattle.table.specs.Sheet.{sheet_in}
use Rattle.folding.proofs.Telling.{told_none, told_next, told_all}
use Rattle.folding.proofs.tell.Goals as goal

pub loop-n-init : goal.loop-n-init
loop-n-init c = let a = c.args in (omega arith, told_none (sheet_in a.t.now) a.rows.from c.empty.ensures)

pub loop-n-preserved : goal.loop-n-preserved
loop-n-preserved c = let a = c.args in let g = c.loop-n in (omega arith, told_next (sheet_in a.t.now) a.rows.from g.n (omega arith) g.invariant.1 c.told_with-x.ensures)

pub returns : goal.returns
returns c = let a = c.args in let g = c.loop-n in told_all (sheet_in a.t.now) a.rows g.n (omega arith) (omega arith) (omega arith) g.invariant.1
