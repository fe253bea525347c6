use native.Mathlib.Nat.{sub-zero}
use mathlib.Core.Path.{refl, ◌∙◌}
use borrow.Author.Tests.{tests}
use Rattle.std.proofs.Common.{rules}
use Rattle.std.proofs.lemmas.Iterator.{YieldsList-from_range}
use Rattle.std.proofs.lemmas.Iterator.Search.{all_from_yields_List}
use Rattle.table.specs.Sheet.{sheet_in}
use Rattle.table.specs.View.{edit_row}
use Rattle.accept.specs.Pairs.{edit_holds}
use Rattle.accept.proofs.Pairing.{each_all, row_named, row_held}
use Rattle.accept.proofs.edits.each_holds.Goals as goal

pub returns : goal.returns
returns c = λ g.
    all_from_yields_List (λ n. edit_holds (sheet_in c.args.t.now) (edit_row (sheet_in c.args.t.now) n).edit) _ _ _ c.all.ensures.ran (YieldsList-from_range 0 _ _ refl (sub-zero _))
    (λ x b q k. search (rules, tests, row_held c.args.t.now x, row_named c.args.t.now g x))
    ∙ each_all _ c.count.ensures
