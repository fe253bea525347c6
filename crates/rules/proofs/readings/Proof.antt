use Rattle.rules.proofs.Worked.{readings_hold}
use Rattle.rules.proofs.readings.Statement.{statement}
use Rattle.rules.proofs.readings.Tie as tie

pub readings_spec : {M : Type 1} → statement M
readings_spec = tie.close (tie.spec (λ c. readings_hold))
