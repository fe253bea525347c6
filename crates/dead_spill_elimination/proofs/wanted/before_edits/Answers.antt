use Rattle.dead_spill_elimination.proofs.Blocks.{edit_step}
use Rattle.dead_spill_elimination.specs.Slots.{edits_back}
use Rattle.dead_spill_elimination.proofs.Down.{going_first, going_next, going_done, in_numbers}
use Rattle.dead_spill_elimination.proofs.wanted.before_edits.Goals as goal

pub loop-n-init : goal.loop-n-init
unfolding edits_back
loop-n-init c = going_first _ _ _ _

pub loop-n-preserved : goal.loop-n-preserved
unfolding edits_back
loop-n-preserved c = going_next _ _ _ _ _ _ _ c.loop-n.invariant c.loop-n-test.true (λ A p h. edit_step _ _ A c.read_edit.ensures (c.before_edit-live.ensures A) (p _ (in_numbers _ _ c.loop-n.invariant.0 c.loop-n-test.true)) h)

pub returns : goal.returns
unfolding edits_back
returns c = λ A. going_done _ _ _ _ _ _ c.loop-n.invariant c.loop-n-test.false A
