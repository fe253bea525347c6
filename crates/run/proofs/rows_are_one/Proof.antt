-- The contract of `run::rows_are_one` is a theorem, proved in Theorem.
use Rattle.run.proofs.Theorem.{once_rows}
use Rattle.run.proofs.rows_are_one.Statement.{statement}
use Rattle.run.proofs.rows_are_one.Tie as tie

pub rows_are_one_spec : {M : Type 1} → statement M
rows_are_one_spec = tie.close (tie.spec (λ c. once_rows))
