-- The contract of `run::sweep_is_exact` is a theorem, proved in Theorem.
use Rattle.run.proofs.Theorem.{exact}
use Rattle.run.proofs.sweep_is_exact.Statement.{statement}
use Rattle.run.proofs.sweep_is_exact.Tie as tie

pub sweep_is_exact_spec : {M : Type 1} → statement M
sweep_is_exact_spec = tie.close (tie.spec (λ c. exact))
