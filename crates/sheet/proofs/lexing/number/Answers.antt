-- `sheet::lexing::number` meets its contract: the digits found are the field's, or the field is no number.
-- Assumes nothing.
use mathlib.Core.Path.{sym, ◌∙◌}
use Prim.Native.Nat.{◌+◌, ◌≤◌}
use native.Mathlib.Omega.{arith}
use lib.ListN.{length}
use Rattle.sheet.proofs.Heads.{number_within, number_small, number_unread, number_ended}
use Rattle.sheet.proofs.lexing.number.Goals as goal

pub returns-then-not-plain : goal.returns-then-not-plain
returns-then-not-plain c = let a = c.args in number_unread a.s.now a.at a.base _ _ c.digits-d.ensures.0 c.digits-d.ensures.1 (sym c.plain.ensures ∙ c.if-not-plain.true)

pub overflow_add-e : goal.overflow_add-e
overflow_add-e c = let within : c.args.at + c.digits-d.result.1 ≤ length c.args.s.now = number_within c.args.s.now c.args.at c.args.base _ _ c.digits-d.ensures.0 c.digits-d.ensures.1 c.requires.at_in_bounds in omega (arith, within)

pub slice_bounds-ended-count : goal.slice_bounds-ended-count
slice_bounds-ended-count c = let within : c.args.at + c.digits-d.result.1 ≤ length c.args.s.now = number_within c.args.s.now c.args.at c.args.base _ _ c.digits-d.ensures.0 c.digits-d.ensures.1 c.requires.at_in_bounds in omega (arith, within)

pub slice_bounds-ended-start : goal.slice_bounds-ended-start
slice_bounds-ended-start c = let within : c.args.at + c.digits-d.result.1 ≤ length c.args.s.now = number_within c.args.s.now c.args.at c.args.base _ _ c.digits-d.ensures.0 c.digits-d.ensures.1 c.requires.at_in_bounds in omega (arith, within)

pub overflow_add-base : goal.overflow_add-base
overflow_add-base c = let a = c.args in omega (arith, number_small a.s.now a.at a.base _ _ c.digits-d.ensures.0 c.digits-d.ensures.1, c.requires.base_le_reuse_mark)

pub returns : goal.returns
returns c = let a = c.args in c.ended.ensures ∙ number_ended a.s.now a.at a.base _ _ c.digits-d.ensures.0 c.digits-d.ensures.1 (sym c.plain.ensures ∙ c.if-not-plain.false)
