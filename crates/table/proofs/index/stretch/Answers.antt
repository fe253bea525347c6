use native.Mathlib.Omega.{arith}
use borrow.Author.Rules.{rules}
use Rattle.table.proofs.Filling.{stretch_all, stretch_none}
use Rattle.table.proofs.index.stretch.Goals as goal

pub returns-then-at-to : goal.returns-then-at-to
returns-then-at-to c = stretch_all _ _ _ _ _ (omega arith) (search rules)

pub returns-else-at-to : goal.returns-else-at-to
returns-else-at-to c = stretch_none _ _ _ _ c.if-at-to.false
