use native.Mathlib.Nat.{sub-zero}
use mathlib.Core.Path.{refl, ◌∙◌}
use borrow.Author.Tests.{tests}
use Rattle.std.proofs.Common.{rules}
use Rattle.std.proofs.lemmas.Iterator.{YieldsList-from_range}
use Rattle.std.proofs.lemmas.Iterator.Search.{all_from_yields_List}
use Rattle.table.specs.Sheet.{sheet_in}
use Rattle.table.specs.View.{op_row}
use Rattle.accept.specs.Operands.{operand_holds}
use Rattle.accept.proofs.Operandwise.{ops_all, row_held}
use Rattle.accept.proofs.constraints.all_hold.Goals as goal

pub returns : goal.returns
returns c = λ q g.
    all_from_yields_List (λ j. operand_holds (sheet_in c.args.t.now) (op_row (sheet_in c.args.t.now) j)) _ _ _ c.all.ensures.ran (YieldsList-from_range 0 _ _ refl (sub-zero _)) (λ x b r k. search (rules, tests, row_held))
    ∙ ops_all _ c.count.ensures
