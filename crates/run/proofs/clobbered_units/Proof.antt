-- The contract of `run::clobbered_units` is a theorem, proved in Clobber.
use Rattle.run.proofs.Clobber.{clobbers}
use Rattle.run.proofs.clobbered_units.Statement.{statement}
use Rattle.run.proofs.clobbered_units.Tie as tie

pub clobbered_units_spec : {M : Type 1} → statement M
clobbered_units_spec = tie.close (tie.spec (λ c. clobbers))
