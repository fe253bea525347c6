use borrow.Author.Tests.{tests}
use Rattle.std.proofs.Common.{rules}
use Rattle.std.proofs.lemmas.Iterator.{YieldsList-from_slice}
use Rattle.std.proofs.lemmas.Iterator.Search.{all_from_yields_List}
use Rattle.laws.specs.Lists.{is_in}
use Rattle.rules.specs.Sheet.{succs_of, preds_of}
use Rattle.graph.specs.Graph.{chosen}
use Rattle.table.specs.Sheet.{sheet_in}
use Rattle.accept.proofs.blocks.neighbour_of_each.Goals as goal

pub returns : goal.returns
returns c = λ g. all_from_yields_List (λ x. is_in c.args.b.0 (chosen c.args.d (succs_of (sheet_in c.args.t.now) x) (preds_of (sheet_in c.args.t.now) x))) _ _ _ c.all.ensures.ran (YieldsList-from_slice _ c.iter.ensures.rest) (λ x b q k. search (rules, tests))
