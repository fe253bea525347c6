use mathlib.Core.Path.{sym, ap, ◌∙◌}
use native.Mathlib.Omega.{arith}
use Rattle.entity.specs.declared.sets.EntitySet.{EntitySet}
use Rattle.entity.specs.declared.numbers.PhysReg.{PhysReg}
use Rattle.holders.proofs.Holding.{below_next, below_end, with_yes, with_no}
use Rattle.holders.proofs.regs_where.Goals as goal
use Rattle.holders.proofs.regs_where.Goals.{then-test, else-test}

pub loop-r-preserved : goal.loop-r-preserved
loop-r-preserved g c = λ f k.
    let e = k _ _ c.test.ensures in
    let i = c.loop-r.invariant f k in
    below_next f _
    (elim c.if-test.branch [
      | then-test w ↦ ap (λ (x : EntitySet PhysReg). x.0) w.s-is ∙ with_yes _ (sym e ∙ w.if-test.true) w.insert-s.ensures _ i
      | else-test w ↦ ap (λ (x : EntitySet PhysReg). x.0) w.s-is ∙ with_no _ (sym e ∙ w.if-test.false) _ i
    ])

pub returns : goal.returns
returns g c = λ f k. below_end f _ _ _ c.count-r-end.ensures (omega arith) c.loop-r-test.false (c.loop-r.invariant f k)
