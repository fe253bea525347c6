use Rattle.std.proofs.Common.{◌≡◌, ◌+◌, length, drop}
use Rattle.std.specs.Slice.Iter.{chunks_rest, chunks_size}
use Rattle.marks.specs.Marks.{page_rows, each_row, applied_at}
use Rattle.marks.proofs.mark_rows.Given as goal

abbrev pub invariant-loop-page : goal.invariant-loop-page
invariant-loop-page l =
    (goal.iterator-loop-page).can_next l.page-iterator
    × (goal.iterator-loop-page).is_finite l.page-iterator
    × (chunks_size l.page-iterator ≡ page_rows)
    × (l.first + length (chunks_rest l.page-iterator) ≡ length l.fn.marks)
    × (chunks_rest l.page-iterator ≡ drop l.first l.fn.marks)
    × (l.edits ≡ each_row applied_at l.initial.edits l.fn.marks l.first)
