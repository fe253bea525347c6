-- The contract of `run::sweep_is_one` is a theorem, proved in Theorem.
use Rattle.run.proofs.Theorem.{once}
use Rattle.run.proofs.sweep_is_one.Statement.{statement}
use Rattle.run.proofs.sweep_is_one.Tie as tie

pub sweep_is_one_spec : {M : Type 1} → statement M
sweep_is_one_spec = tie.close (tie.spec (λ c. once))
