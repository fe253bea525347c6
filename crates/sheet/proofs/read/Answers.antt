use mathlib.Core.Path.{◌≡◌, sym, ◌∙◌, ap}
use mathlib.Core.Bool.{true}
use Prim.Native.Nat.{◌≤◌}
use native.Mathlib.Omega.{arith}
use lib.ListN.{length}
use Rattle.rules.specs.Rows.{cells_of, sheet_ok}
use Rattle.table.specs.Layout.{table_length}
use Rattle.table.specs.Table.{Holds}
use Rattle.table.proofs.Holding.{sheet_is}
use Rattle.sheet.proofs.Beginnings.{sheet_rises}
use Rattle.sheet.proofs.Answering.{are_rows, no_rows, rows_long, rows_broken, rows_not, rows_are, too_short, refused, accepted}
use Rattle.sheet.proofs.read.Goals as goal

pub returns-then-t-room : goal.returns-then-t-room
returns-then-t-room c = let a = c.args in let answer = too_short a.sheet.now a.t.now a.t.now (omega (arith, c.room.ensures)) in record { value = answer.0; indexed = answer.1 }

pub returns-then-sheet-gt-BYTES : goal.returns-then-sheet-gt-BYTES
returns-then-sheet-gt-BYTES c = let a = c.args in let answer = refused a.sheet.now a.t.now a.t.now (rows_long _ c.if-sheet-gt-BYTES.true) in record { value = answer.0; indexed = answer.1 }

pub index-requires : goal.index-requires
index-requires c =
    let at = are_rows (cells_of c.args.sheet.now) c.in-Some.n c.rows.ensures.value c.in-Some.is in
    let held : Holds at.0 c.rows.new.t = c.rows.ensures.holds at.0 at.1 in
    omega (arith, held.apart)

pub returns : goal.returns
returns c = let a = c.args in
    let at = are_rows (cells_of c.args.sheet.now) c.in-Some.n c.rows.ensures.value c.in-Some.is in
    let held : Holds at.0 c.rows.new.t = c.rows.ensures.holds at.0 at.1 in
    let tested : c.sheet_ok.result ≡ sheet_ok at.0 = c.sheet_ok.ensures ∙ ap sheet_ok (sheet_is held _ at.2) in
    let enough : table_length (length c.args.sheet.now) ≤ length c.args.t.now = omega (arith, c.room.ensures) in
    let ok : sheet_ok at.0 ≡ true = sym tested ∙ c.if-not-sheet_ok.false in
    let answer = accepted a.sheet.now a.t.now c.index.new.t at.0 (rows_are a.sheet.now at.0 (omega arith) at.1 ok) enough (c.index.ensures at.0 held at.2 (sheet_rises at.0 ok)) in record { value = answer.0; indexed = answer.1 }

pub returns-then-not-sheet_ok : goal.returns-then-not-sheet_ok
returns-then-not-sheet_ok c = let a = c.args in
    let at = are_rows (cells_of c.args.sheet.now) c.in-Some.n c.rows.ensures.value c.in-Some.is in
    let held : Holds at.0 c.rows.new.t = c.rows.ensures.holds at.0 at.1 in
    let tested : c.sheet_ok.result ≡ sheet_ok at.0 = c.sheet_ok.ensures ∙ ap sheet_ok (sheet_is held _ at.2) in
    let answer = refused a.sheet.now a.t.now c.rows.new.t (rows_not a.sheet.now at.0 at.1 (sym tested ∙ c.if-not-sheet_ok.true)) in record { value = answer.0; indexed = answer.1 }

pub returns-in_default : goal.returns-in_default
returns-in_default c = let a = c.args in let answer = refused a.sheet.now a.t.now c.rows.new.t (rows_broken a.sheet.now (no_rows _ c.rows.ensures.value c.in_default.is)) in record { value = answer.0; indexed = answer.1 }
