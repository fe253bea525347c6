use native.Mathlib.Omega.{arith}
use Rattle.dead_spill_elimination.proofs.Settling.{turned}
use Rattle.dead_spill_elimination.proofs.ends.turn.Goals as goal

pub returns : goal.returns
returns c = turned _ _ _ _ _ _ c.read.ensures c.store.ensures c.slots_of-end.ensures c.before_block-start.ensures c.word_of.ensures (omega arith) c.preds.ensures c.hand_back.ensures
