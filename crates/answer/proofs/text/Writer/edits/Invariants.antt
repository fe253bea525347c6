use mathlib.Core.List.{flat_map}
use Rattle.laws.specs.Lists.{from}
use Rattle.answer.specs.Text.{Laid}
use Rattle.answer.specs.Rows.{edit_at}
use Rattle.answer.proofs.text.Writer.edits.Given as goal

abbrev pub invariant-loop-n : goal.invariant-loop-n
invariant-loop-n l = Laid (flat_map (edit_at l.t l.edits) (from 0 l.n)) l.initial.self l.self
