use mathlib.Core.Path.{◌≡◌}
use Prim.Native.Nat.{◌-◌}
use lib.ListN.{length}
use Rattle.laws.specs.Fold.{run}
use Rattle.laws.specs.Lists.{from}
use Rattle.table.specs.Sheet.{sheet_in}
use Rattle.table.specs.Edits.{edits_in}
use Rattle.record.specs.Flat.{record_of}
use Rattle.moves.specs.Walks.{Ordered}
use Rattle.move_optimizer.proofs.BlockWalks.{prepares}
use Rattle.move_optimizer.proofs.levels.prepare_block.Given as goal

abbrev pub invariant-loop-i : goal.invariant-loop-i
invariant-loop-i l = Ordered l.t → run (prepares (sheet_in l.t) l.b.0 (edits_in l.edits (length (sheet_in l.t).edits))) (record_of l.rec) (from l.i (l.i-end - l.i)) ≡ run (prepares (sheet_in l.t) l.b.0 (edits_in l.edits (length (sheet_in l.t).edits))) (record_of l.initial.rec) (from l.initial.i (l.i-end - l.initial.i))
