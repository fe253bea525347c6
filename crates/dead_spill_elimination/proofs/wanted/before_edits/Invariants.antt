use Prim.Native.Nat.{ℕ}
use Rattle.rules.specs.Function.{edit, In}
use Rattle.rules.specs.Sweep.{wanted_before}
use Rattle.table.specs.Edits.{edit_in}
use Rattle.dead_spill_elimination.specs.Slots.{LowReads, numbers}
use Rattle.dead_spill_elimination.proofs.Down.{Going}
use Rattle.dead_spill_elimination.proofs.wanted.before_edits.Given as goal

abbrev pub invariant-loop-n : goal.invariant-loop-n
invariant-loop-n l = Going ((j : ℕ) → In j (numbers l.fn.rows) → LowReads (edit (edit_in l.edits j))) (λ j B. wanted_before (edit (edit_in l.edits j)) B) l.fn.rows l.initial.live.0 l.live.0 l.n
