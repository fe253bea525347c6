use Rattle.holders.proofs.Holding.{fill_all, fill_next, fill_end}
use Rattle.holders.proofs.fill.Goals as goal

pub loop-c-preserved : goal.loop-c-preserved
loop-c-preserved c = λ g f. fill_next _ g _ _ c.count-c-end.ensures c.loop-c-test.true (c.loop-c.invariant g f) c.members.ensures c.of_list.ensures c.put_set-in-loop-c.ensures

pub returns : goal.returns
returns c = λ g b. fill_end _ _ _ c.count-c-end.ensures c.loop-c-test.false (c.loop-c.invariant g (fill_all _ g b c.of_all.ensures c.put_set.ensures))
