-- `sheet::lexing::field` meets its contract: a mark or none, and whether a digit stands behind it, say which reading the field has.
-- Assumes nothing.
use mathlib.Core.Path.{◌≡◌, sym, ◌∙◌, ap}
use mathlib.Core.Logic.{inl, inr, ⊎_elim}
use native.Mathlib.Omega.{arith}
use lib.ListN.{get_or}
use Rattle.rules.specs.Cells.{is_digit}
use Rattle.sheet.proofs.Answers.{is_some, is_none}
use Rattle.sheet.proofs.Marks.{Begun, mark_below, nil_unread, begun_number, begun_word}
use Rattle.sheet.proofs.lexing.field.Goals as goal
use Rattle.sheet.proofs.lexing.field.Goals.{in-Some, in_default}

pub returns-then-s-at : goal.returns-then-s-at
returns-then-s-at c = nil_unread _ _ c.if-s-at.true

pub overflow_mul-base : goal.overflow_mul-base
overflow_mul-base c = omega (arith, mark_below _ _ (is_some _ _ c.mark.ensures c.in-Some.is))

pub number-requires : goal.number-requires
number-requires c =
    let begun : Begun c.args.s.now c.args.at c.match-mark.from c.match-mark.base =
    elim c.match-mark.branch [
      | in-Some w ↦ inl (w.in-Some.k, is_some _ _ c.mark.ensures w.in-Some.is, w.from-is, w.base-is)
      | in_default w ↦ inr (is_none _ c.mark.ensures w.in_default.is, w.from-is, w.base-is)
    ] in
    ⊎_elim
    (λ w. record { at_in_bounds = omega (arith, w.2); base_le_reuse_mark = omega (arith, w.3, mark_below _ _ w.1) })
    (λ w. record { at_in_bounds = omega (arith, w.1); base_le_reuse_mark = omega (arith, w.2) })
    begun

pub returns-then-is_digit : goal.returns-then-is_digit
returns-then-is_digit c =
    let begun : Begun c.args.s.now c.args.at c.match-mark.from c.match-mark.base =
    elim c.match-mark.branch [
      | in-Some w ↦ inl (w.in-Some.k, is_some _ _ c.mark.ensures w.in-Some.is, w.from-is, w.base-is)
      | in_default w ↦ inr (is_none _ c.mark.ensures w.in_default.is, w.from-is, w.base-is)
    ] in
    let tested : is_digit (get_or c.args.s.now c.match-mark.from 0) ≡ c.is_digit.result = ap is_digit (sym c.read.ensures) ∙ sym c.is_digit.ensures in
    c.number.ensures ∙ begun_number _ _ _ _ c.if-s-at.false begun (tested ∙ c.if-is_digit.true)

pub returns : goal.returns
returns c =
    let begun : Begun c.args.s.now c.args.at c.match-mark.from c.match-mark.base =
    elim c.match-mark.branch [
      | in-Some w ↦ inl (w.in-Some.k, is_some _ _ c.mark.ensures w.in-Some.is, w.from-is, w.base-is)
      | in_default w ↦ inr (is_none _ c.mark.ensures w.in_default.is, w.from-is, w.base-is)
    ] in
    let tested : is_digit (get_or c.args.s.now c.match-mark.from 0) ≡ c.is_digit.result = ap is_digit (sym c.read.ensures) ∙ sym c.is_digit.ensures in
    c.word.ensures ∙ begun_word _ _ _ _ c.if-s-at.false begun (tested ∙ c.if-is_digit.false)
