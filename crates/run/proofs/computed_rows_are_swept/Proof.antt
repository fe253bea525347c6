-- The contract of `run::computed_rows_are_swept` is a theorem, proved in Struck.
use Rattle.run.proofs.Struck.{computed_rows}
use Rattle.run.proofs.computed_rows_are_swept.Statement.{statement}
use Rattle.run.proofs.computed_rows_are_swept.Tie as tie

pub computed_rows_are_swept_spec : {M : Type 1} → statement M
computed_rows_are_swept_spec = tie.close (tie.spec (λ c. computed_rows))
