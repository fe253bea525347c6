use Rattle.table.specs.Sheet.{sheet_in}
use Rattle.table.specs.Index.{Ready}
use Rattle.holders.proofs.Holding.{Filling}
use Rattle.holders.proofs.fill.Given as goal

abbrev pub invariant-loop-c : goal.invariant-loop-c
invariant-loop-c l = Ready l.t → Filling (sheet_in l.t) 0 l.initial.classes → Filling (sheet_in l.t) l.c l.classes
