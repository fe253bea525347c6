-- The contract of `rules::small_cases` is a theorem, proved in Examples.
use Rattle.rules.proofs.Examples.{examples}
use Rattle.rules.proofs.small_cases.Statement.{statement}
use Rattle.rules.proofs.small_cases.Tie as tie

pub small_cases_spec : {M : Type 1} → statement M
small_cases_spec = tie.close (tie.spec (λ c. examples))
