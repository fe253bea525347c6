use mathlib.Core.Path.{ap, ◌∙◌}
use Rattle.laws.specs.Fold.{run}
use Rattle.operands.proofs.Finding.{rows_are, row_here, rows_past}
use Rattle.definitions.proofs.Loops.{rest_next, rest_end}
use Rattle.definitions.proofs.Defining.{defines_all}
use Rattle.definitions.proofs.define_all.Goals as goal

pub loop-n-preserved : goal.loop-n-preserved
loop-n-preserved c = λ g. rest_next _ (row_here g _ _ c.op_rows-rows.ensures _ c.loop-n-test.true) (c.loop-n.invariant g) (c.define_operand.ensures g)

pub returns : goal.returns
returns c = λ g. rest_end _ (rows_past g _ _ c.op_rows-rows.ensures _ c.loop-n-test.false) (c.loop-n.invariant g) ∙ ap (run _ _) (rows_are g _ _ c.op_rows-rows.ensures) ∙ defines_all _ _ _ _ _
