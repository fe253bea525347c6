use Prim.Native.Nat.{ℕ}
use Rattle.rules.specs.Forward.{begins_empty}
use Rattle.table.specs.Sheet.{sheet_in}
use Rattle.table.specs.Index.{Ready}
use Rattle.states.specs.States.{Unset, Started}
use Rattle.states.proofs.starts.forward_start.Given as goal

abbrev pub invariant-loop-b : goal.invariant-loop-b
invariant-loop-b l = Ready l.t → (m : ℕ) → Unset m l.initial.states → Started (begins_empty (sheet_in l.t)) m l.states l.b
