use Rattle.std.proofs.Common.{◌≡◌}
use Rattle.marks.specs.Marks.{with_records}
use Rattle.marks.proofs.lay_out.Given as goal

abbrev pub invariant-loop-n : goal.invariant-loop-n
invariant-loop-n l = l.edits ≡ with_records l.initial.edits l.fn.list l.first l.n
