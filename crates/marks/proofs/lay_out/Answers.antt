use Rattle.std.proofs.Common.{arith}
use Rattle.std.proofs.Math.ListN.{length-take}
use Rattle.std.proofs.Math.Seq.{get_or-take}
use Rattle.marks.proofs.Marking.{laid_first, laid_more}
use Rattle.marks.proofs.lay_out.Goals as goal

pub loop-n-init : goal.loop-n-init
loop-n-init c = laid_first _ _ _

pub loop-n-preserved : goal.loop-n-preserved
loop-n-preserved c =
    laid_more _ _ _ _ _ c.loop-n.invariant (get_or-take c.args.rows c.args.list c.loop-n.n _ (omega (arith, c.loop-n-test.true, length-take c.args.rows c.args.list)))
    c.store_record.ensures
