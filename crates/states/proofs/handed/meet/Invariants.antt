use Prim.Native.Nat.{◌+◌}
use lib.ListN.{get_or}
use Rattle.states.proofs.Meeting.{met_at}
use Rattle.states.proofs.Spans.{Span, Kept}
use Rattle.states.proofs.handed.meet.Given as goal

abbrev pub invariant-loop-i : goal.invariant-loop-i
invariant-loop-i l = Span l.at (met_at l.rec.cells l.initial.states l.at) l.initial.states l.i l.states × Kept (met_at l.rec.cells l.initial.states l.at) (λ j. get_or l.initial.states (l.at + j) 0) l.i l.went
