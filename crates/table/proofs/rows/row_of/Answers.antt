use mathlib.Core.Path.{◌∙◌}
use native.Mathlib.Omega.{arith}
use Rattle.table.proofs.Parts.{kind_hit, kind_miss}
use Rattle.table.proofs.rows.row_of.Goals as goal

pub returns-then-n-saturating_sub : goal.returns-then-n-saturating_sub
returns-then-n-saturating_sub c = c.row.ensures ∙ kind_hit _ _ _ c.read-from.ensures c.read-to.ensures (omega arith)

pub returns : goal.returns
returns c = kind_miss _ _ _ c.read-from.ensures c.read-to.ensures (omega arith)
