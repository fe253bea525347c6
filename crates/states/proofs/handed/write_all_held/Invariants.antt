use mathlib.Core.Path.{◌≡◌}
use Rattle.laws.specs.Fold.{run}
use Rattle.laws.specs.Lists.{from}
use Rattle.table.specs.Sheet.{sheet_in}
use Rattle.record.specs.Flat.{record_of}
use Rattle.rules.specs.Forward.{write_held}
use Rattle.states.proofs.handed.write_all_held.Given as goal

abbrev pub invariant-loop-r : goal.invariant-loop-r
invariant-loop-r l = record_of l.rec ≡ run (write_held (sheet_in l.t) (record_of l.initial.rec).known.held) (record_of l.initial.rec) (from 0 l.r)
