use mathlib.Core.Path.{◌≡◌, ◌∙◌}
use Rattle.std.proofs.Common.{rules, Err}
use Rattle.drifthurdle.proofs.Refusing.{names_refuse, blocks_refuse, operands_refuse, edits_refuse, all_pass}
use Rattle.drifthurdle.proofs.check_ready.Goals as goal

pub returns-then-not-names_hold : goal.returns-then-not-names_hold
returns-then-not-names_hold c = λ rs x ok l b. names_refuse x ok l b c.names_hold.ensures c.if-not-names_hold.true

pub returns-in_err-check_blocks : goal.returns-in_err-check_blocks
returns-in_err-check_blocks c = λ rs x ok l b. let e : c.from_residual.result ≡ Err c.in_err-check_blocks.field-0.0 = search rules in e ∙ blocks_refuse x ok l b c.names_hold.ensures c.if-not-names_hold.false c.check_blocks.ensures c.in_err-check_blocks.was

pub returns-then-not-operands_hold : goal.returns-then-not-operands_hold
returns-then-not-operands_hold c = λ rs x ok l b. operands_refuse x ok l b c.names_hold.ensures c.if-not-names_hold.false c.check_blocks.ensures c.in_ok-check_blocks.was c.operands_hold.ensures c.if-not-operands_hold.true

pub returns-then-not-edits_hold : goal.returns-then-not-edits_hold
returns-then-not-edits_hold c = λ rs x ok l b. edits_refuse x ok l b c.names_hold.ensures c.if-not-names_hold.false c.check_blocks.ensures c.in_ok-check_blocks.was c.operands_hold.ensures c.if-not-operands_hold.false c.edits_hold.ensures c.if-not-edits_hold.true

pub returns : goal.returns
returns c = λ rs x ok l b. all_pass x ok l b c.names_hold.ensures c.if-not-names_hold.false c.check_blocks.ensures c.in_ok-check_blocks.was c.operands_hold.ensures c.if-not-operands_hold.false c.edits_hold.ensures c.if-not-edits_hold.false
