use lib.ListN.{length}
use Rattle.table.specs.Sheet.{sheet_in}
use Rattle.table.specs.Edits.{edits_in}
use Rattle.move_optimizer.proofs.BlockWalks.{prepared_next, prepared_end}
use Rattle.move_optimizer.proofs.levels.prepare_block.Goals as goal

pub loop-i-preserved : goal.loop-i-preserved
loop-i-preserved c = let x = c.args in λ o. prepared_next _ _ (edits_in x.edits.now (length (sheet_in x.t.now).edits)) _ _ c.loop-i-test.true (c.prepare_edits.ensures o) (c.prepare_inst.ensures o.ready) (c.loop-i.invariant o)

pub returns : goal.returns
returns c = let x = c.args in λ o. prepared_end _ _ (edits_in x.edits.now (length (sheet_in x.t.now).edits)) _ _ _ c.insts_of-rows.ensures c.loop-i-test.false o.ready (c.enter.ensures o.ready) (c.loop-i.invariant o)
