use native.Mathlib.Omega.{arith}
use lib.ListN.{length}
use Rattle.table.proofs.Parts.{room_short}
use Rattle.drifthurdle.proofs.Refusing.{too_long, middle_enough, long_enough}
use Rattle.drifthurdle.proofs.read_and_clean.Goals as goal

pub returns-then-sheet-le1024 : goal.returns-then-sheet-le1024
returns-then-sheet-le1024 c = c.clean_by.ensures (omega (arith, room_short (length c.args.sheet.now) c.if-sheet-le1024.true))

pub returns-then-sheet-le8192 : goal.returns-then-sheet-le8192
returns-then-sheet-le8192 c = c.clean_by-then-sheet-le8192.ensures (middle_enough (length c.args.sheet.now) c.if-sheet-le8192.true)

pub returns-then-sheet-gt-BYTES : goal.returns-then-sheet-gt-BYTES
returns-then-sheet-gt-BYTES c = too_long _ _ _ _ _ c.if-sheet-gt-BYTES.true

pub returns : goal.returns
returns c = c.clean_by-2.ensures (long_enough (length c.args.sheet.now))
