use mathlib.Core.Path.{sym, ◌∙◌}
use Rattle.rules.specs.Forward.{begins_empty}
use Rattle.table.specs.Sheet.{sheet_in}
use Rattle.states.proofs.Starting.{start_yes, start_no}
use Rattle.states.proofs.starts.empty_at.Goals as goal

pub returns-then-begins_empty : goal.returns-then-begins_empty
returns-then-begins_empty c = let x = c.args in λ g n p. start_yes (begins_empty (sheet_in x.t.now)) n x.b.0 x.states.now _ p (sym (c.begins_empty.ensures g) ∙ c.if-begins_empty.true) c.set_nothing.ensures

pub returns-else-begins_empty : goal.returns-else-begins_empty
returns-else-begins_empty c = let x = c.args in λ g n p. start_no (begins_empty (sheet_in x.t.now)) n x.b.0 x.states.now x.states.now p (sym (c.begins_empty.ensures g) ∙ c.if-begins_empty.false)
