use Rattle.accept.proofs.Pairing.{unordered, none_asked, one_broken, all_held}
use Rattle.accept.proofs.edits.edits_hold.Goals as goal

pub returns-else-in_order : goal.returns-else-in_order
returns-else-in_order c = unordered _ _ c.in_order.ensures c.if-in_order.false

pub returns-then-not-some_emergency : goal.returns-then-not-some_emergency
returns-then-not-some_emergency c = none_asked _ _ _ c.in_order.ensures c.if-in_order.true c.some_emergency.ensures c.if-not-some_emergency.true

pub returns-else-each_holds : goal.returns-else-each_holds
returns-else-each_holds c = one_broken _ _ c.each_holds.ensures c.if-each_holds.false

pub returns-then-each_holds : goal.returns-then-each_holds
returns-then-each_holds c = all_held _ _ _ _ c.in_order.ensures c.if-in_order.true c.each_holds.ensures c.if-each_holds.true c.all_paired.ensures
