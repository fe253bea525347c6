use mathlib.Core.Path.{sym, ◌∙◌}
use Rattle.rules.specs.Accept.{is_entry}
use Rattle.table.specs.Sheet.{sheet_in}
use Rattle.states.proofs.Starting.{start_yes, start_no, waits_yes, waits_no}
use Rattle.states.proofs.starts.entry_at.Goals as goal

pub returns-then-is_entry : goal.returns-then-is_entry
returns-then-is_entry c = let x = c.args in let e = sym c.is_entry.ensures ∙ c.if-is_entry.true in record { started = (λ n p. start_yes (is_entry (sheet_in x.t.now)) n x.b.0 x.states.now _ p e c.set_nothing.ensures); waits = (λ p. waits_yes (is_entry (sheet_in x.t.now)) x.b.0 x.w.0 _ p e c.insert.ensures) }

pub returns : goal.returns
returns c = let x = c.args in let e = sym c.is_entry.ensures ∙ c.if-is_entry.false in record { started = (λ n p. start_no (is_entry (sheet_in x.t.now)) n x.b.0 x.states.now x.states.now p e); waits = (λ p. waits_no (is_entry (sheet_in x.t.now)) x.b.0 x.w.0 x.w.0 p e) }
