-- The contract of `run::rows_are_exact` is a theorem, proved in Theorem.
use Rattle.run.proofs.Theorem.{exact_rows}
use Rattle.run.proofs.rows_are_exact.Statement.{statement}
use Rattle.run.proofs.rows_are_exact.Tie as tie

pub rows_are_exact_spec : {M : Type 1} → statement M
rows_are_exact_spec = tie.close (tie.spec (λ c. exact_rows))
