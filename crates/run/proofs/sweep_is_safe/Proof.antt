-- The contract of `run::sweep_is_safe` is a theorem, proved in Theorem.
use Rattle.run.proofs.Theorem.{safe}
use Rattle.run.proofs.sweep_is_safe.Statement.{statement}
use Rattle.run.proofs.sweep_is_safe.Tie as tie

pub sweep_is_safe_spec : {M : Type 1} → statement M
sweep_is_safe_spec = tie.close (tie.spec (λ c. safe))
