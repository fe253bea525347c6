-- The contract of `run::rows_are_safe` is a theorem, proved in Theorem.
use Rattle.run.proofs.Theorem.{safe_rows}
use Rattle.run.proofs.rows_are_safe.Statement.{statement}
use Rattle.run.proofs.rows_are_safe.Tie as tie

pub rows_are_safe_spec : {M : Type 1} → statement M
rows_are_safe_spec = tie.close (tie.spec (λ c. safe_rows))
