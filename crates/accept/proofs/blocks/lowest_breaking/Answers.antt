use Rattle.std.proofs.lemmas.Iterator.{YieldsList-from_range, YieldsList-from_map}
use Rattle.std.proofs.lemmas.Iterator.Search.{find_from_yields_List}
use Rattle.std.proofs.Common.{rules}
use borrow.Author.Tests.{tests}
use mathlib.Core.Bool.{not}
use native.Mathlib.Nat.{sub-zero}
use Rattle.entity.specs.declared.numbers.Block.{Block}
use Rattle.accept.proofs.Lowest.{low_is}
use Rattle.accept.proofs.blocks.lowest_breaking.Goals as goal

pub returns : goal.returns
returns g c = λ f h. low_is _ f c.count.ensures _ (find_from_yields_List (λ (b : Block). not (f b.0)) _ _ _ c.find.ensures.ran (YieldsList-from_map _ (λ (n : _). record { 0 = n }) (YieldsList-from_range 0 _ _ c.map.ensures.source (sub-zero _)) c.map.ensures.closure (λ x r q k. search rules)) (λ x b q k. search (rules, tests, h)))
