use Rattle.accept.specs.Blocks.{reach_set}
use Rattle.table.specs.Sheet.{sheet_in}
use Rattle.table.specs.Index.{Ready}
use mathlib.Core.Path.{◌≡◌}
use Rattle.accept.proofs.blocks.lowest_unreached.Given as goal

abbrev pub invariant-loop : goal.invariant-loop
invariant-loop l = Ready l.t → l.s.0 ≡ reach_set (sheet_in l.t) l.counter
