use mathlib.Core.Path.{refl}
use Rattle.dead_spill_elimination.proofs.Given.{give_same, give_new}
use Rattle.dead_spill_elimination.proofs.ends.hand_to.Goals as goal

pub returns-then-new-old : goal.returns-then-new-old
returns-then-new-old c = give_same _ _ _ _ _ c.read-old.ensures c.if-new-old.true refl refl

pub returns : goal.returns
returns c = give_new _ _ _ _ _ c.read-old.ensures c.if-new-old.false c.store.ensures c.store-2.ensures
