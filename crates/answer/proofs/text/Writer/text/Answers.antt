use mathlib.Core.Path.{refl, sym, ◌∙◌}
use native.Mathlib.Nat.{add-zero}
use native.Mathlib.Omega.{arith}
use lib.Seq.{take_all}
use Rattle.answer.specs.Text.{over}
use Rattle.answer.proofs.Laying.{over_more}
use Rattle.answer.proofs.text.Writer.text.Goals as goal

pub loop-b-init : goal.loop-b-init
unfolding over
loop-b-init c h = (refl, sym (add-zero c.args.self.now.at))

pub loop-b-preserved : goal.loop-b-preserved
loop-b-preserved c h =
    let x = c.loop-b.invariant (omega arith) in
    (c.store.ensures ∙ over_more _ _ _ x.0 x.1 c.loop-b-test.true, omega (arith, x.1, c.saturating_add-at.ensures))

pub returns : goal.returns
returns c =
    let e = take_all _ _ c.loop-b-test.false in
    record {
      laid = λ h. let x = c.loop-b.invariant (omega (arith, c.loop-b.auto.b-index-end)) in (rw e at x.0, omega (arith, x.1, c.loop-b.auto.b-index-end, c.loop-b-test.false));
      kept = refl;
    }
