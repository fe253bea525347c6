-- The contract of `run::call_is_exact` is a theorem, proved in Call.
use Rattle.run.proofs.Call.{exact_call}
use Rattle.run.proofs.call_is_exact.Statement.{statement}
use Rattle.run.proofs.call_is_exact.Tie as tie

pub call_is_exact_spec : {M : Type 1} → statement M
call_is_exact_spec = tie.close (tie.spec (λ c. exact_call))
