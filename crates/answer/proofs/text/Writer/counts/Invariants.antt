use mathlib.Core.List.{flat_map}
use Rattle.laws.specs.Lists.{from}
use Rattle.answer.specs.Text.{Laid}
use Rattle.answer.proofs.Lines.{count_field}
use Rattle.answer.proofs.text.Writer.counts.Given as goal

abbrev pub invariant-loop-k : goal.invariant-loop-k
invariant-loop-k l = Laid (flat_map (count_field l.counts) (from 0 l.k)) l.initial.self l.self
