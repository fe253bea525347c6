use Rattle.accept.specs.Blocks.{grown}
use Rattle.table.specs.Sheet.{sheet_in}
use Rattle.table.specs.Index.{Ready}
use mathlib.Core.Path.{◌≡◌}
use Rattle.accept.proofs.blocks.further.Given as goal

abbrev pub invariant-loop-b : goal.invariant-loop-b
invariant-loop-b l = Ready l.t → l.all ≡ grown (sheet_in l.t) l.initial.all l.b
