use mathlib.Core.List.{◌∷◌}
use mathlib.Core.Path.{ap}
use Prim.Native.Nat.{ℕ}
use Rattle.rules.specs.Cells.{digits_of}
use Rattle.rules.specs.Text.{bytes}
use Rattle.answer.proofs.Laying.{laid_then, laid_as}
use Rattle.answer.proofs.Lines.{count_line_lem, laid_no_row, laid_row}
use Rattle.answer.proofs.text.Writer.counts.Goals as goal

pub loop-k-init : goal.loop-k-init
loop-k-init c = laid_no_row _ _

pub loop-k-preserved : goal.loop-k-preserved
loop-k-preserved c = laid_row _ _ c.loop-k.invariant (laid_as (ap (λ (n : ℕ). 44 ∷ digits_of n) c.read.ensures) c.next_number.ensures)

pub returns : goal.returns
unfolding bytes
returns c = laid_as (count_line_lem _ _ c.loop-k.auto.k-end c.loop-k-test.false) (laid_then c.text.ensures (laid_then c.loop-k.invariant c.end.ensures))
