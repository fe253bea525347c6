use mathlib.Core.Path.{refl, ◌∙◌}
use native.Mathlib.Omega.{arith}
use Rattle.table.proofs.Filling.{going_start, going_turn, going_end}
use Rattle.table.proofs.index.fill.Goals as goal

pub returns-then-t-lt-CELLS : goal.returns-then-t-lt-CELLS
returns-then-t-lt-CELLS c = λ rs i. absurd (omega (arith, i.held.apart))

pub loop-n-init : goal.loop-n-init
loop-n-init c = (refl, omega arith, going_start _ _ _ _)

pub overflow_add-past : goal.overflow_add-past
overflow_add-past c = omega (arith, c.min-past.ensures)

pub overflow_add-at-in-loop-n : goal.overflow_add-at-in-loop-n
overflow_add-at-in-loop-n c = omega (arith, c.min-past.ensures)

pub stretch-requires : goal.stretch-requires
stretch-requires c = omega (arith, c.min-past.ensures, c.loop-n.invariant.0)

pub loop-n-preserved : goal.loop-n-preserved
loop-n-preserved c = let i = c.loop-n.invariant in
    let l = c.min-past.ensures in
    let g = c.max-x.ensures in
    let p = c.requires in (
      c.stretch.auto.t ∙ i.0,
      omega arith,
      rw g (going_turn _ _ _ _ _ _ _ _ p.0 c.count-rows.ensures i.2 _ _ _ _ _ c.loop-n-test.true c.row_of.ensures c.read.ensures (omega arith) p.1 p.2 i.1 refl c.stretch.ensures),
    )

pub stretch-requires-2 : goal.stretch-requires-2
stretch-requires-2 c = omega (arith, c.loop-n.invariant.0)

pub shape_of-t : goal.shape_of-t
shape_of-t c = c.stretch-2.auto.t ∙ c.loop-n.invariant.0

pub returns : goal.returns
returns c = let i = c.loop-n.invariant in let p = c.requires in going_end _ _ _ _ _ _ _ _ p.0 c.count-rows.ensures i.2 _ _ (omega arith) (omega arith) p.1 p.2 i.1 (omega arith) c.stretch-2.ensures
