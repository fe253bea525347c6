use native.Mathlib.Omega.{arith}
use Rattle.moves.proofs.Moving.{edits_none, edits_next, edits_end}
use Rattle.moves.proofs.optimise_edits.Goals as goal

pub loop-j-init : goal.loop-j-init
loop-j-init c = let a = c.args in (omega arith, edits_none a.t.now a.classes.now a.rec.now a.edits.now a.counts.now a.b.0 c.edit_rows-rows.result.from)

pub loop-j-preserved : goal.loop-j-preserved
loop-j-preserved c = (omega arith, edits_next c.args.b.0 c.args.i.0 c.edit_rows-rows.ensures c.loop-j.invariant.1 c.step.ensures.lent (omega arith) (omega arith))

pub returns : goal.returns
returns c = edits_end c.args.b.0 c.args.i.0 c.edit_rows-rows.ensures c.loop-j.invariant.1 (omega arith) (omega arith) (omega arith)
