use mathlib.Core.List.{zip_with}
use Rattle.std.specs.Iterator.Adapters.{zip_first, zip_second}
use Rattle.std.specs.Slice.Iter.{iter_rest}
use Rattle.table.specs.Sheet.{sheet_in}
use Rattle.definitions.specs.Definitions.{at_reg, units_at}
use Rattle.definitions.proofs.Loops.{Gathering}
use Rattle.definitions.proofs.add_members.Given as goal

abbrev pub invariant-loop-r : goal.invariant-loop-r
invariant-loop-r l = Gathering (units_at (sheet_in l.t) (zip_with at_reg (iter_rest (zip_first l.r-iterator)) (iter_rest (zip_second l.r-iterator)))) (units_at (sheet_in l.t) (zip_with at_reg l.vs l.rs)) l.initial.s.0 l.s.0
