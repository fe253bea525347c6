use Rattle.accept.proofs.Lowest.{row_is, row_few}
use native.Mathlib.Omega.{arith}
use Rattle.accept.proofs.blocks.block_row.Goals as goal
use Rattle.accept.proofs.blocks.block_row.Goals.{else-above-lt65000-via-then-above-lt65000+else-b-lt500, else-above-lt65000-via-else-above-lt65000}

pub returns-then-b-lt500 : goal.returns-then-b-lt500
returns-then-b-lt500 c = λ g l. row_is _ _ _ c.first-above.ensures

pub returns : goal.returns
returns c = λ g l. absurd (let f = row_few _ g in elim c.else-above-lt65000.branch [ else-above-lt65000-via-then-above-lt65000+else-b-lt500 w ↦ omega arith | else-above-lt65000-via-else-above-lt65000 w ↦ omega (arith, c.first-above.ensures) ])
