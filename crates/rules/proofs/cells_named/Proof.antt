-- The contract of `rules::cells_named` is a theorem, proved in Sheets.
use Rattle.rules.proofs.Sheets.{named}
use Rattle.rules.proofs.cells_named.Statement.{statement}
use Rattle.rules.proofs.cells_named.Tie as tie

pub cells_named_spec : {M : Type 1} → statement M
cells_named_spec = tie.close (tie.spec (λ c. named))
