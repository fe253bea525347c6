use Rattle.moves.proofs.Moving.{move_by}
use Rattle.moves.proofs.optimise_move.Goals as goal

pub returns : goal.returns
returns c = let a = c.args in move_by a.b.0 a.j.0 a.a c.decide-fate.ensures c.rewrite.ensures c.record_fate.ensures
