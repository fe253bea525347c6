use Prim.Native.Nat.{◌+◌}
use lib.ListN.{get_or}
use Rattle.record.specs.Layout.{held_at}
use Rattle.states.proofs.Spans.{Span}
use Rattle.states.proofs.handed.take_known.Given as goal

abbrev pub invariant-loop-i : goal.invariant-loop-i
invariant-loop-i l = Span held_at (λ j. get_or l.states (l.at + j) 0) l.initial.rec.cells l.i l.rec.cells
