use native.Mathlib.Omega.{arith}
use Rattle.record.specs.Flat.{record_of}
use Rattle.moves.proofs.Moving.{effects_none, effects_next, effects_end}
use Rattle.moves.proofs.prepare_edits.Goals as goal

pub loop-j-init : goal.loop-j-init
loop-j-init c = let a = c.args in (omega arith, effects_none a.t.now a.edits.now (record_of a.rec.now) c.edit_rows-rows.result.from)

pub loop-j-preserved : goal.loop-j-preserved
loop-j-preserved c = (omega arith, effects_next c.args.edits.now (record_of c.args.rec.now) c.args.i.0 c.edit_rows-rows.ensures c.loop-j.invariant.1 c.read_edit.ensures c.effect.ensures (omega arith) (omega arith))

pub returns : goal.returns
returns c = effects_end c.args.edits.now (record_of c.args.rec.now) c.args.i.0 c.edit_rows-rows.ensures c.loop-j.invariant.1 (omega arith) (omega arith) (omega arith)
