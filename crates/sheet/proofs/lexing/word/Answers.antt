-- `sheet::lexing::word` meets its contract: the bytes found are the field's, or the field is no word.
-- Assumes nothing.
use mathlib.Core.Path.{◌∙◌}
use Prim.Native.Nat.{◌+◌, ◌≤◌}
use native.Mathlib.Omega.{arith}
use lib.ListN.{length}
use Rattle.sheet.proofs.Answers.{is_some, is_none}
use Rattle.sheet.proofs.Heads.{word_within, word_unread, word_ended}
use Rattle.sheet.proofs.lexing.word.Goals as goal

pub overflow_add-e : goal.overflow_add-e
overflow_add-e c = let within : c.args.at + c.packed-p.result.1 ≤ length c.args.s.now = word_within c.args.s.now c.args.at _ _ c.packed-p.ensures.0 c.packed-p.ensures.1 c.requires in omega (arith, within)

pub slice_bounds-ended-count : goal.slice_bounds-ended-count
slice_bounds-ended-count c = let within : c.args.at + c.packed-p.result.1 ≤ length c.args.s.now = word_within c.args.s.now c.args.at _ _ c.packed-p.ensures.0 c.packed-p.ensures.1 c.requires in omega (arith, within)

pub slice_bounds-ended-start : goal.slice_bounds-ended-start
slice_bounds-ended-start c = let within : c.args.at + c.packed-p.result.1 ≤ length c.args.s.now = word_within c.args.s.now c.args.at _ _ c.packed-p.ensures.0 c.packed-p.ensures.1 c.requires in omega (arith, within)

pub returns-in_err-c : goal.returns-in_err-c
returns-in_err-c c = let a = c.args in c.from_residual.ensures ∙ word_unread a.s.now a.at _ _ c.packed-p.ensures.0 c.packed-p.ensures.1 (λ i. omega (arith, c.type_inv.s i)) (is_none _ c.lookup.ensures c.in_err-c.was)

pub returns : goal.returns
returns c = let a = c.args in c.ended.ensures ∙ word_ended a.s.now a.at _ _ c.packed-p.ensures.0 c.packed-p.ensures.1 (λ i. omega (arith, c.type_inv.s i)) _ (is_some _ _ c.lookup.ensures c.in_ok-c.was)
