use Prim.Native.Nat.{◌≤◌, ◌-◌}
use Rattle.record.specs.Flat.{record_of}
use Rattle.moves.proofs.Moving.{Prepared}
use Rattle.moves.proofs.prepare_edits.Given as goal

abbrev pub invariant-loop-j : goal.invariant-loop-j
invariant-loop-j l = (l.j - l.initial.j ≤ l.j-end - l.initial.j) × Prepared l.t l.edits (record_of l.initial.rec) (record_of l.rec) l.initial.j l.j
