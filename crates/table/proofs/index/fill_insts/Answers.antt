use mathlib.Core.Path.{◌≡◌, refl, ◌∙◌}
use native.Mathlib.Omega.{arith}
use lib.ListN.{length-set}
use Rattle.table.proofs.Filling.{summing_start, summing_next, summed}
use Rattle.table.proofs.index.fill_insts.Goals as goal

pub returns-then-t-lt-CELLS : goal.returns-then-t-lt-CELLS
returns-then-t-lt-CELLS c = λ rs i m. absurd (omega (arith, i.held.apart))

pub loop-b-init : goal.loop-b-init
loop-b-init c = (refl, omega arith, summing_start _)

pub bounds-t-b : goal.bounds-t-b
bounds-t-b c = omega (arith, c.loop-b.invariant.0, c.min-blocks.ensures)

pub loop-b-preserved : goal.loop-b-preserved
loop-b-preserved c = let i = c.loop-b.invariant in (
  length-set c.loop-b.t _ _ ∙ i.0,
  omega arith,
  summing_next _ _ _ _ _ _ _ (omega (arith, c.min-blocks.ensures)) refl c.row_of.ensures c.read-n.ensures i.2,
)

pub stretch-requires : goal.stretch-requires
stretch-requires c = omega (arith, c.loop-b.invariant.0)

pub shape_of-t : goal.shape_of-t
shape_of-t c = c.stretch.auto.t ∙ c.loop-b.invariant.0

pub returns : goal.returns
returns c = let e : c.loop-b.b ≡ c.min-blocks.result = omega arith in summed _ _ _ _ _ _ _ c.count.ensures (omega (arith, c.min-blocks.ensures)) (omega (arith, c.min-blocks.ensures)) refl c.stretch.ensures (rw e at c.loop-b.invariant.2)
