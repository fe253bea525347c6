use mathlib.Core.Path.{ap}
use mathlib.Core.List.{flat_map}
use Rattle.operands.proofs.Finding.{rows_are, row_here, rows_past}
use Rattle.definitions.proofs.Loops.{gather_next, gather_end, flat_here, flat_none, with_as, only_with}
use Rattle.definitions.proofs.own_units.Goals as goal

pub loop-n-preserved : goal.loop-n-preserved
loop-n-preserved c = λ g. gather_next _ (flat_here _ (row_here g _ _ c.op_rows-rows.ensures _ c.loop-n-test.true)) (c.loop-n.invariant g) (c.add_operand-s.ensures g)

pub returns : goal.returns
returns c = λ g. only_with c.empty-s.ensures (with_as (ap (flat_map _) (rows_are g _ _ c.op_rows-rows.ensures)) (gather_end (flat_none _ (rows_past g _ _ c.op_rows-rows.ensures _ c.loop-n-test.false)) (c.loop-n.invariant g)))
