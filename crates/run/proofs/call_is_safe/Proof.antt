-- The contract of `run::call_is_safe` is a theorem, proved in Call.
use Rattle.run.proofs.Call.{safe_call}
use Rattle.run.proofs.call_is_safe.Statement.{statement}
use Rattle.run.proofs.call_is_safe.Tie as tie

pub call_is_safe_spec : {M : Type 1} → statement M
call_is_safe_spec = tie.close (tie.spec (λ c. safe_call))
