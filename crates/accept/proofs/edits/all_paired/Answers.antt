use native.Mathlib.Nat.{sub-zero}
use mathlib.Core.Path.{refl, ◌∙◌}
use borrow.Author.Tests.{tests}
use Rattle.std.proofs.Common.{rules}
use Rattle.std.proofs.lemmas.Iterator.{YieldsList-from_range}
use Rattle.std.proofs.lemmas.Iterator.Search.{all_from_yields_List}
use Rattle.table.specs.Sheet.{sheet_in}
use mathlib.Core.Option.{none}
use Rattle.rules.specs.Accept.{paired, edits_in}
use Rattle.accept.proofs.Blockwise.{blocks_all}
use Rattle.accept.proofs.edits.all_paired.Goals as goal

pub returns : goal.returns
returns c = λ g o.
    all_from_yields_List (λ b. paired none (edits_in (sheet_in c.args.t.now) b)) _ _ _ c.all.ensures.ran (YieldsList-from_range 0 _ _ refl (sub-zero _)) (λ x b q k. search (rules, tests))
    ∙ blocks_all _ _ c.count.ensures
