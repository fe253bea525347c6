-- The contract of `run::wanted_is_computed` is a theorem, proved in Struck.
use Rattle.run.proofs.Struck.{wanted_computed}
use Rattle.run.proofs.wanted_is_computed.Statement.{statement}
use Rattle.run.proofs.wanted_is_computed.Tie as tie

pub wanted_is_computed_spec : {M : Type 1} → statement M
wanted_is_computed_spec = tie.close (tie.spec (λ c. wanted_computed))
