use Rattle.accept.proofs.Pairing.{order_start, order_stop, order_go, order_end}
use Rattle.accept.proofs.edits.in_order.Goals as goal

pub loop-n-init : goal.loop-n-init
loop-n-init c = order_start _

pub returns-then-i-last : goal.returns-then-i-last
returns-then-i-last c = order_stop _ _ _ _ _ c.count-n-end.ensures c.edit_at-i.ensures c.loop-n.invariant c.loop-n-test.true c.if-i-last.true

pub loop-n-preserved : goal.loop-n-preserved
loop-n-preserved c = order_go _ _ _ _ _ c.count-n-end.ensures c.edit_at-i.ensures c.loop-n.invariant c.loop-n-test.true c.if-i-last.false

pub returns : goal.returns
returns c = order_end _ _ _ _ c.count-n-end.ensures c.loop-n.invariant c.loop-n-test.false
