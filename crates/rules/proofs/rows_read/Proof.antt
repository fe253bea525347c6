-- The contract of `rules::rows_read` is a theorem, proved in Sheets.
use Rattle.rules.proofs.Sheets.{rows_read}
use Rattle.rules.proofs.rows_read.Statement.{statement}
use Rattle.rules.proofs.rows_read.Tie as tie

pub rows_read_spec : {M : Type 1} → statement M
rows_read_spec = tie.close (tie.spec (λ c. rows_read))
