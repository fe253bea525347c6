-- The contract of `run::other_rows_stay` is a theorem, proved in Struck.
use Rattle.run.proofs.Struck.{others_stay}
use Rattle.run.proofs.other_rows_stay.Statement.{statement}
use Rattle.run.proofs.other_rows_stay.Tie as tie

pub other_rows_stay_spec : {M : Type 1} → statement M
other_rows_stay_spec = tie.close (tie.spec (λ c. others_stay))
