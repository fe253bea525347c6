use lib.ListN.{take}
use Rattle.std.proofs.Common.{◌≡◌, ◌+◌, ◌≤◌}
use Rattle.answer.specs.Text.{over}
use Rattle.answer.proofs.text.Writer.text.Given as goal

abbrev pub invariant-loop-b : goal.invariant-loop-b
invariant-loop-b l = l.initial.at + l.b-index ≤ 18446744073709551615 → (l.out ≡ over l.initial.out l.initial.at (take l.b-index l.text)) × (l.at ≡ l.initial.at + l.b-index)
