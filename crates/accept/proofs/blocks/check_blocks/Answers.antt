use Rattle.accept.proofs.Lowest.{entry_stop, entry_go, rule_go, rule_stop, all_held}
use Rattle.entity.specs.declared.forms.Refusal.TheVariants.{Empty, Disagree, Edges, NotSmaller, NotReached}
use Rattle.rules.specs.Accept.{filled, named_back, edges_hold, smaller_hold, is_reached}
use Rattle.table.specs.Sheet.{sheet_in}
use Rattle.std.proofs.Common.{rules}
use borrow.Author.Tests.{tests}
use mathlib.Core.Path.{ap}
use mathlib.Core.Bool.{not}
use Rattle.accept.proofs.blocks.check_blocks.Goals as goal

pub returns-then-not-some_entry : goal.returns-then-not-some_entry
returns-then-not-some_entry c = entry_stop _ c.some_entry.ensures (ap not c.if-not-some_entry.true)

pub returns-in-Some : goal.returns-in-Some
unfolding filled
returns-in-Some c =
    let l = entry_go _ c.some_entry.ensures (ap not c.if-not-some_entry.false) in
    rule_stop _ (filled (sheet_in _)) Empty l (λ g. c.lowest_breaking.ensures _ (λ b kept p. search (rules, tests))) _ c.in-Some.is c.block_row.ensures

pub returns-in-Some-lowest_breaking : goal.returns-in-Some-lowest_breaking
unfolding filled
returns-in-Some-lowest_breaking c =
    let l = entry_go _ c.some_entry.ensures (ap not c.if-not-some_entry.false) in
    let l0 = rule_go _ (filled (sheet_in _)) Empty l (λ g. c.lowest_breaking.ensures _ (λ b kept p. search (rules, tests))) c.in_default.is in
    rule_stop _ (named_back (sheet_in _)) Disagree l0 (λ g. c.lowest_breaking-2.ensures _ (λ b kept p. search (rules, tests))) _ c.in-Some-lowest_breaking.is c.block_row-in-Some-lowest_breaking.ensures

pub returns-in-Some-lowest_breaking-2 : goal.returns-in-Some-lowest_breaking-2
unfolding filled
returns-in-Some-lowest_breaking-2 c =
    let l = entry_go _ c.some_entry.ensures (ap not c.if-not-some_entry.false) in
    let l0 = rule_go _ (filled (sheet_in _)) Empty l (λ g. c.lowest_breaking.ensures _ (λ b kept p. search (rules, tests))) c.in_default.is in
    let l1 = rule_go _ (named_back (sheet_in _)) Disagree l0 (λ g. c.lowest_breaking-2.ensures _ (λ b kept p. search (rules, tests))) c.in_default-lowest_breaking.is in
    rule_stop _ (edges_hold (sheet_in _)) Edges l1 (λ g. c.lowest_breaking-3.ensures _ (λ b kept p. search (rules, tests))) _ c.in-Some-lowest_breaking-2.is c.block_row-in-Some-lowest_breaking-2.ensures

pub returns-in-Some-lowest_breaking-3 : goal.returns-in-Some-lowest_breaking-3
unfolding filled
returns-in-Some-lowest_breaking-3 c =
    let l = entry_go _ c.some_entry.ensures (ap not c.if-not-some_entry.false) in
    let l0 = rule_go _ (filled (sheet_in _)) Empty l (λ g. c.lowest_breaking.ensures _ (λ b kept p. search (rules, tests))) c.in_default.is in
    let l1 = rule_go _ (named_back (sheet_in _)) Disagree l0 (λ g. c.lowest_breaking-2.ensures _ (λ b kept p. search (rules, tests))) c.in_default-lowest_breaking.is in
    let l2 = rule_go _ (edges_hold (sheet_in _)) Edges l1 (λ g. c.lowest_breaking-3.ensures _ (λ b kept p. search (rules, tests))) c.in_default-lowest_breaking-2.is in
    rule_stop _ (smaller_hold (sheet_in _)) NotSmaller l2 (λ g. c.lowest_breaking-4.ensures _ (λ b kept p. search (rules, tests))) _ c.in-Some-lowest_breaking-3.is c.block_row-in-Some-lowest_breaking-3.ensures

pub returns-in-Some-lowest_unreached : goal.returns-in-Some-lowest_unreached
unfolding filled
returns-in-Some-lowest_unreached c =
    let l = entry_go _ c.some_entry.ensures (ap not c.if-not-some_entry.false) in
    let l0 = rule_go _ (filled (sheet_in _)) Empty l (λ g. c.lowest_breaking.ensures _ (λ b kept p. search (rules, tests))) c.in_default.is in
    let l1 = rule_go _ (named_back (sheet_in _)) Disagree l0 (λ g. c.lowest_breaking-2.ensures _ (λ b kept p. search (rules, tests))) c.in_default-lowest_breaking.is in
    let l2 = rule_go _ (edges_hold (sheet_in _)) Edges l1 (λ g. c.lowest_breaking-3.ensures _ (λ b kept p. search (rules, tests))) c.in_default-lowest_breaking-2.is in
    let l3 = rule_go _ (smaller_hold (sheet_in _)) NotSmaller l2 (λ g. c.lowest_breaking-4.ensures _ (λ b kept p. search (rules, tests))) c.in_default-lowest_breaking-3.is in
    rule_stop _ (is_reached (sheet_in _)) NotReached l3 c.lowest_unreached.ensures _ c.in-Some-lowest_unreached.is c.block_row-in-Some-lowest_unreached.ensures

pub returns : goal.returns
unfolding filled
returns c =
    let l = entry_go _ c.some_entry.ensures (ap not c.if-not-some_entry.false) in
    let l0 = rule_go _ (filled (sheet_in _)) Empty l (λ g. c.lowest_breaking.ensures _ (λ b kept p. search (rules, tests))) c.in_default.is in
    let l1 = rule_go _ (named_back (sheet_in _)) Disagree l0 (λ g. c.lowest_breaking-2.ensures _ (λ b kept p. search (rules, tests))) c.in_default-lowest_breaking.is in
    let l2 = rule_go _ (edges_hold (sheet_in _)) Edges l1 (λ g. c.lowest_breaking-3.ensures _ (λ b kept p. search (rules, tests))) c.in_default-lowest_breaking-2.is in
    let l3 = rule_go _ (smaller_hold (sheet_in _)) NotSmaller l2 (λ g. c.lowest_breaking-4.ensures _ (λ b kept p. search (rules, tests))) c.in_default-lowest_breaking-3.is in
    all_held _ (rule_go _ (is_reached (sheet_in _)) NotReached l3 c.lowest_unreached.ensures c.in_default-lowest_unreached.is)
