use borrow.Author.Tests.{tests}
use lib.Dec.{leb}
use lib.ListN.{length}
use Rattle.std.proofs.Common.{rules}
use Rattle.std.proofs.lemmas.Iterator.{YieldsList-from_slice}
use Rattle.std.proofs.lemmas.Iterator.Search.{all_from_yields_List}
use Rattle.rules.specs.Sheet.{preds_of}
use Rattle.table.specs.Sheet.{sheet_in}
use Rattle.accept.specs.Blocks.{sole_preds}
use Rattle.accept.proofs.blocks.sole_preds.Goals as goal

pub returns : goal.returns
unfolding sole_preds
returns c = λ g. all_from_yields_List (λ x. leb (length (preds_of (sheet_in c.args.t.now) x)) 1) _ _ _ c.all.ensures.ran (YieldsList-from_slice _ c.iter.ensures.rest) (λ x b q k. search (rules, tests))
