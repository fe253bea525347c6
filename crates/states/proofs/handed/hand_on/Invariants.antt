use mathlib.Core.Path.{◌≡◌}
use Prim.Native.Nat.{ℕ}
use lib.ListN.{take}
use Rattle.laws.specs.Fold.{run}
use Rattle.rules.specs.Sheet.{block_count, succs_of}
use Rattle.rules.specs.Forward.{Handed, hand_to}
use Rattle.table.specs.Sheet.{sheet_in}
use Rattle.table.specs.Index.{Ready}
use Rattle.record.specs.Flat.{record_of}
use Rattle.states.specs.States.{Lies}
use Rattle.states.proofs.handed.hand_on.Given as goal

abbrev pub invariant-loop-x : goal.invariant-loop-x
invariant-loop-x l = (a : ℕ) → Ready l.t → l.bs ≡ succs_of (sheet_in l.t) a → (h : Handed) → Lies (block_count (sheet_in l.t)) l.initial.states l.initial.w.0 h → Lies (block_count (sheet_in l.t)) l.states l.w.0 (run (hand_to (sheet_in l.t) a (record_of l.rec)) h (take l.x-index l.bs))
