use native.Mathlib.Omega.{arith}
use Rattle.dead_spill_elimination.proofs.Blocks.{inst_step}
use Rattle.dead_spill_elimination.proofs.wanted.before_inst.Goals as goal

pub returns : goal.returns
returns c = λ A h. inst_step _ _ _ _ A c.read-defs.ensures c.read-uses.ensures c.word_of.ensures c.slots_of.ensures (omega arith) (omega arith) (omega arith) h
