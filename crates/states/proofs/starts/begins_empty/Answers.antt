use mathlib.Core.Path.{sym, ap, ◌∙◌}
use lib.Dec.{leb}
use borrow.Author.Tests.{le-ltb}
use Rattle.std.proofs.Common.{rules}
use Rattle.std.proofs.lemmas.Iterator.{YieldsList-from_slice}
use Rattle.std.proofs.lemmas.Iterator.Search.{any_from_yields_List}
use Rattle.laws.specs.Lists.{any}
use Rattle.table.specs.Sheet.{sheet_in}
use Rattle.states.proofs.Starting.{empty_entry, empty_few, empty_many}
use Rattle.states.proofs.starts.begins_empty.Goals as goal

pub returns-then-is_entry : goal.returns-then-is_entry
returns-then-is_entry c = let x = c.args in λ g. empty_entry (sheet_in x.t.now) x.b.0 (sym c.is_entry.ensures ∙ c.if-is_entry.true)

pub returns-else-ps-gt1 : goal.returns-else-ps-gt1
returns-else-ps-gt1 c = let x = c.args in λ g. le-ltb _ _ c.if-ps-gt1.false ∙ empty_few (sheet_in x.t.now) x.b.0 (sym c.is_entry.ensures ∙ c.if-is_entry.false) (rw (c.preds-ps.ensures g) at c.if-ps-gt1.false)

pub returns-then-ps-gt1 : goal.returns-then-ps-gt1
returns-then-ps-gt1 c = let x = c.args in λ g.
    any_from_yields_List (λ p. leb x.b.0 p) _ _ c.any.result c.any.ensures.ran (YieldsList-from_slice c.preds-ps.result.now cc) (λ y b q k. search rules)
    ∙ ap (any (λ p. leb x.b.0 p)) (c.preds-ps.ensures g) ∙ empty_many (sheet_in x.t.now) x.b.0 (sym c.is_entry.ensures ∙ c.if-is_entry.false) (rw (c.preds-ps.ensures g) at c.if-ps-gt1.true)
