-- The contract of `run::rows_stand_once` is a theorem, proved in Stand.
use Rattle.run.proofs.Stand.{stand_once}
use Rattle.run.proofs.rows_stand_once.Statement.{statement}
use Rattle.run.proofs.rows_stand_once.Tie as tie

pub rows_stand_once_spec : {M : Type 1} → statement M
rows_stand_once_spec = tie.close (tie.spec (λ c. stand_once))
