use Rattle.std.proofs.Common.{◌≡◌, length, ap, ◌∙◌, arith}
use Rattle.marks.specs.Marks.{each_row, struck_at, struck_by}
use Rattle.marks.proofs.Marking.{each_first, each_next}
use Rattle.marks.proofs.mark.Goals as goal

pub loop-n-init : goal.loop-n-init
loop-n-init c = each_first struck_at _ _

pub loop-n-preserved : goal.loop-n-preserved
loop-n-preserved c = let e = each_next struck_at c.args.list.now c.args.marks.now c.loop-n.n in rw (e, ← c.loop-n.invariant) c.strike.ensures

pub returns : goal.returns
unfolding struck_by
returns c =
    let e : c.loop-n.n ≡ length c.args.marks.now = omega (arith, c.loop-n-test.false) in
    c.loop-n.invariant ∙ ap (each_row struck_at c.args.list.now c.args.marks.now) e
