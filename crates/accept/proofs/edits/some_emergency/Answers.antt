use native.Mathlib.Nat.{sub-zero}
use mathlib.Core.Path.{refl, ◌∙◌}
use borrow.Author.Tests.{tests}
use Rattle.std.proofs.Common.{rules}
use Rattle.std.proofs.lemmas.Iterator.{YieldsList-from_range}
use Rattle.std.proofs.lemmas.Iterator.Search.{any_from_yields_List}
use Rattle.table.specs.Sheet.{sheet_in}
use Rattle.table.specs.View.{edit_row}
use Rattle.accept.specs.Pairs.{is_emergency}
use Rattle.accept.proofs.Pairing.{emergencies_any}
use Rattle.accept.proofs.edits.some_emergency.Goals as goal

pub returns : goal.returns
returns c =
    any_from_yields_List (λ n. is_emergency (edit_row (sheet_in c.args.t.now) n).edit) _ _ _ c.any.ensures.ran (YieldsList-from_range 0 _ _ refl (sub-zero _)) (λ x b q k. search (rules, tests))
    ∙ emergencies_any _ c.count.ensures
