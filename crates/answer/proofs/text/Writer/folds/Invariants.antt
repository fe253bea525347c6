use mathlib.Core.List.{flat_map}
use Rattle.laws.specs.Lists.{from}
use Rattle.answer.specs.Text.{Laid}
use Rattle.answer.specs.Rows.{fold_at}
use Rattle.answer.proofs.text.Writer.folds.Given as goal

abbrev pub invariant-loop-n : goal.invariant-loop-n
invariant-loop-n l = Laid (flat_map (fold_at l.t l.places) (from 0 l.n)) l.initial.self l.self
