use mathlib.Core.Path.{◌≡◌}
use Prim.Native.Nat.{◌-◌}
use Rattle.rules.specs.Rows.{sheet_ok}
use Rattle.table.specs.Table.{rows_from, rows_in}
use Rattle.sheet.proofs.Order.{left}
use Rattle.sheet.proofs.grammar.sheet_ok.Given as goal

abbrev pub invariant-loop-i : goal.invariant-loop-i
invariant-loop-i l = sheet_ok (rows_in l.t l.n) ≡ left l.p l.x (rows_from l.t l.i (l.n - l.i))
