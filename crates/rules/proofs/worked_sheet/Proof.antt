use Rattle.rules.proofs.Worked.{worked_sheet}
use Rattle.rules.proofs.worked_sheet.Statement.{statement}
use Rattle.rules.proofs.worked_sheet.Tie as tie

pub worked_sheet_spec : {M : Type 1} → statement M
worked_sheet_spec = tie.close (tie.spec (λ c. worked_sheet))
