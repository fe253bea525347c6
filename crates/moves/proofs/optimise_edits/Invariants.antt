use Prim.Native.Nat.{◌≤◌, ◌-◌}
use Rattle.moves.proofs.Moving.{Passed}
use Rattle.moves.proofs.optimise_edits.Given as goal

abbrev pub invariant-loop-j : goal.invariant-loop-j
invariant-loop-j l = (l.j - l.initial.j ≤ l.j-end - l.initial.j) × Passed l.t l.classes l.initial.rec l.initial.edits l.initial.counts l.rec l.edits l.counts l.b.0 l.initial.j l.j
