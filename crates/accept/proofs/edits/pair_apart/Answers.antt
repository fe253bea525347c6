use Rattle.accept.proofs.Pairing.{apart_home, apart_units}
use Rattle.accept.proofs.edits.pair_apart.Goals as goal

pub returns-then-not-contains : goal.returns-then-not-contains
returns-then-not-contains c = apart_units _ _ _ _ _ _ c.contains.ensures c.if-not-contains.true c.units.ensures c.any_in.ensures

pub returns-else-not-contains : goal.returns-else-not-contains
returns-else-not-contains c = apart_home _ _ _ _ _ c.contains.ensures c.if-not-contains.false
