use native.Mathlib.Omega.{arith}
use Rattle.dead_spill_elimination.proofs.Tell.{set_of_word}
use Rattle.dead_spill_elimination.proofs.ends.slots_of.Goals as goal

pub returns : goal.returns
returns c = λ A e. rw c.of.ensures (set_of_word _ (omega arith) A e)
