-- The worked sheets, by computing.
use mathlib.Core.Path.{refl}
use Rattle.rules.proofs.Computing.{computing}
use Rattle.rules.specs.Readings.{Readings}
use Rattle.rules.specs.Worked.{lines, WorkedSheet}

pub worked_sheet : WorkedSheet
unfolding computing lines
worked_sheet = record { gives = refl; program_c1 = (refl, refl); program_empty = refl; returned_c1 = (refl, refl); buffer_c1 = (refl, refl) }

pub readings_hold : Readings
unfolding computing lines
readings_hold = record { gives = refl; returns = refl; prints = (refl, refl) }
