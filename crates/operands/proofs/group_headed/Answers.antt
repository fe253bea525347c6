use mathlib.Core.Path.{◌≡◌}
use mathlib.Core.Bool.{true, false}
use Rattle.std.proofs.Common.{rules}
use borrow.Author.Tests.{tests}
use Rattle.std.proofs.lemmas.Iterator.{first_from_Range}
use Rattle.rules.specs.Accept.{headed_by}
use Rattle.table.specs.Sheet.{sheet_in}
use Rattle.table.specs.View.{group_row}
use Rattle.operands.proofs.Heading.{headed_first}
use Rattle.operands.proofs.group_headed.Goals as goal

pub returns : goal.returns
returns c =
    let a = c.args in
    headed_first a.t.now a.c.0 a.r.0 _ c.count-groups.ensures
    (first_from_Range _ _ _ _ (λ k. headed_by a.c.0 a.r.0 (group_row (sheet_in a.t.now) k) ≡ true) (λ k. headed_by a.c.0 a.r.0 (group_row (sheet_in a.t.now) k) ≡ false)
    c.find-found.ensures.ran (λ x q k. search (rules, tests)) (λ x q k. search (rules, tests)))
    c.unwrap_or.ensures
