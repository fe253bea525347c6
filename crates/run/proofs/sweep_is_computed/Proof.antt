-- The contract of `run::sweep_is_computed` is a theorem, proved in Struck.
use Rattle.run.proofs.Struck.{sweep_is}
use Rattle.run.proofs.sweep_is_computed.Statement.{statement}
use Rattle.run.proofs.sweep_is_computed.Tie as tie

pub sweep_is_computed_spec : {M : Type 1} → statement M
sweep_is_computed_spec = tie.close (tie.spec (λ c. sweep_is))
