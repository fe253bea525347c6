use Rattle.std.proofs.Common.{◌≡◌, ℕ, ◌+◌, ◌<◌, get_or}
use Rattle.marks.specs.Marks.{record_in, no_record}
use Rattle.marks.proofs.listed.Given as goal

abbrev pub invariant-loop-n : goal.invariant-loop-n
invariant-loop-n l = (i : ℕ) → i < l.n → get_or l.r-items i no_record ≡ record_in l.edits (l.first + i)
