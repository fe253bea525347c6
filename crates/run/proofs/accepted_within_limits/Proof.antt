-- The contract of `run::accepted_within_limits` is a theorem, proved in Within.
use Rattle.run.proofs.Within.{accepted_within}
use Rattle.run.proofs.accepted_within_limits.Statement.{statement}
use Rattle.run.proofs.accepted_within_limits.Tie as tie

pub accepted_within_limits_spec : {M : Type 1} → statement M
accepted_within_limits_spec = tie.close (tie.spec (λ c. accepted_within))
