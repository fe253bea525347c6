-- Document 01's numbers for the cases of each enum, and document 02's rows of refusals.
use Rattle.std.specs.Prelude.{ℕ, ◌+◌, ◌*◌, eqb, Option, Some, None}
use Rattle.laws.specs.Choice.{pick}
use Rattle.entity.specs.declared.forms.Level.{Level, TheVariants.Off, TheVariants.Local, TheVariants.Forward, TheVariants.Global}
use Rattle.entity.specs.declared.forms.Refusal.{Refusal, TheVariants.Rows, TheVariants.Limits, TheVariants.Names, TheVariants.NoEntry, TheVariants.Empty, TheVariants.Disagree, TheVariants.Edges, TheVariants.NotSmaller, TheVariants.NotReached, TheVariants.Operands, TheVariants.Edits, TheVariants.Call, TheVariants.Room}
use Rattle.entity.specs.declared.forms.Told.{Told}

-- "Levels: 0 `Off`, 1 per block (each block starts with nothing known), 2 `Forward`, 3 `Global`."
abbrev pub level_number : Level → ℕ
level_number Off = 0
level_number Local = 1
level_number Forward = 2
level_number Global = 3

abbrev pub level_of : ℕ → Option Level
level_of n =
    pick (eqb n 0) (Some Off)
    (pick (eqb n 1) (Some Local)
    (pick (eqb n 2) (Some Forward)
    (pick (eqb n 3) (Some Global)
    None)))

-- The number and the row of each refusal. 1 rows, 2 limits, 3 names, "4 no entry or empty block; 9 lists disagree; 10 entry with predecessor, or several
-- successors meeting several predecessors; 11 sole predecessor or idom not smaller; 12 not reached", 5 operands, 6 edits, 7 level or sweep flag, 8 output
-- buffer. "The row is 0 where no block is concerned and for every other refusal."
abbrev pub told_of : Refusal → Told
told_of Rows = record { number = 1; row = 0 }
told_of Limits = record { number = 2; row = 0 }
told_of Names = record { number = 3; row = 0 }
told_of NoEntry = record { number = 4; row = 0 }
told_of (Empty row) = record { number = 4; row = row }
told_of (Disagree row) = record { number = 9; row = row }
told_of (Edges row) = record { number = 10; row = row }
told_of (NotSmaller row) = record { number = 11; row = row }
told_of (NotReached row) = record { number = 12; row = row }
told_of Operands = record { number = 5; row = 0 }
told_of Edits = record { number = 6; row = 0 }
told_of Call = record { number = 7; row = 0 }
told_of Room = record { number = 8; row = 0 }

-- "100 times the row plus the number"
abbrev pub sum_of : Refusal → ℕ
sum_of r = 100 * (told_of r).row + (told_of r).number
