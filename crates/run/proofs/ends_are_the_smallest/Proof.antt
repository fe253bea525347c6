-- The contract of `run::ends_are_the_smallest` is a theorem, proved in Settle.
use Rattle.run.proofs.Settle.{agreement}
use Rattle.run.proofs.ends_are_the_smallest.Statement.{statement}
use Rattle.run.proofs.ends_are_the_smallest.Tie as tie

pub ends_are_the_smallest_spec : {M : Type 1} → statement M
ends_are_the_smallest_spec = tie.close (tie.spec (λ c. agreement))
