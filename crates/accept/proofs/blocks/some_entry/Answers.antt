use native.Mathlib.Nat.{sub-zero}
use mathlib.Core.Path.{refl, ◌∙◌}
use borrow.Author.Tests.{tests}
use Rattle.std.proofs.Common.{rules}
use Rattle.std.proofs.lemmas.Iterator.{YieldsList-from_range}
use Rattle.std.proofs.lemmas.Iterator.Search.{any_from_yields_List}
use Rattle.rules.specs.Accept.{is_entry}
use Rattle.table.specs.Sheet.{sheet_in}
use Rattle.accept.proofs.Blockwise.{some_blocks}
use Rattle.accept.proofs.blocks.some_entry.Goals as goal

pub returns : goal.returns
returns c = λ g. any_from_yields_List (is_entry (sheet_in c.args.t.now)) _ _ _ c.any.ensures.ran (YieldsList-from_range 0 _ _ refl (sub-zero _)) (λ x b q k. search (rules, tests)) ∙ some_blocks _ c.count.ensures
