-- A turn begins with the list that has the first n marks done.
use Rattle.std.proofs.Common.{◌≡◌}
use Rattle.marks.specs.Marks.{each_row, struck_at}
use Rattle.marks.proofs.mark.Given as goal

abbrev pub invariant-loop-n : goal.invariant-loop-n
invariant-loop-n l = l.list ≡ each_row struck_at l.initial.list l.marks l.n
