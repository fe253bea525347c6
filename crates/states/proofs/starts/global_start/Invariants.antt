use Prim.Native.Nat.{ℕ}
use Rattle.rules.specs.Accept.{is_entry}
use Rattle.table.specs.Sheet.{sheet_in}
use Rattle.states.specs.States.{Unset, Started, Waits}
use Rattle.states.proofs.starts.global_start.Given as goal

abbrev pub invariant-loop-b : goal.invariant-loop-b
invariant-loop-b l = ((m : ℕ) → Unset m l.initial.states → Started (is_entry (sheet_in l.t)) m l.states l.b) × Waits (is_entry (sheet_in l.t)) l.w.0 l.b
