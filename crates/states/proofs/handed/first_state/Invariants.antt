use Prim.Native.Nat.{◌+◌}
use lib.ListN.{get_or}
use Rattle.record.specs.Layout.{held_at}
use Rattle.record.specs.Flat.{record_of}
use Rattle.states.specs.States.{handed_in}
use Rattle.states.proofs.Spans.{Span}
use Rattle.states.proofs.handed.first_state.Given as goal

abbrev pub invariant-loop-i : goal.invariant-loop-i
invariant-loop-i l = Span l.at (λ j. handed_in (record_of l.rec) l.sole l.b.0 (get_or l.rec.cells (held_at + j) 0)) l.initial.states l.i l.states
