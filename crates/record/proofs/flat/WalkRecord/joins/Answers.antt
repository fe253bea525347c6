use lib.Dec.{eqb}
use lib.ListN.{length, get_or}
use borrow.Author.Tests.{ne_eqb}
use Rattle.std.proofs.Common.{rules}
use Rattle.std.proofs.lemmas.Iterator.{YieldsList-from_slice}
use Rattle.std.proofs.lemmas.Iterator.Search.{all_from_yields_List}
use Rattle.rules.specs.Record.{absent}
use Rattle.record.specs.Flat.{record_of}
use Rattle.record.proofs.flat.WalkRecord.joins.Goals as goal

pub returns-else-us-eq1 : goal.returns-else-us-eq1
returns-else-us-eq1 c = let a = c.args in rw (ne_eqb (length a.us.now) 1 c.if-us-eq1.false)
    (all_from_yields_List (λ w. eqb (get_or (record_of a.self.now).writes.value w absent) a.v) _ _ c.all.result c.all.ensures.ran (YieldsList-from_slice a.us.now cc) (λ x b q k. search rules))
