use borrow.Author.Rules.{rules}
use Rattle.table.specs.Sheet.{sheet_in}
use Rattle.table.proofs.Sheets.{succs_are, preds_are}
use Rattle.names.specs.Steps.{edge_named}
use Rattle.names.proofs.Rows.{by_rows}
use Rattle.names.proofs.Within.{names_by, code_is}
use Rattle.names.proofs.names.all_named.Goals as goal

pub returns-then-params_named : goal.returns-then-params_named
returns-then-params_named c = λ w.
    let t = c.args.t.now in
    let succs = by_rows (succs_are t) (edge_named (sheet_in t)) in
    let preds = by_rows (preds_are t) (edge_named (sheet_in t)) in
    let code = code_is (sheet_in t) w c.inst_total.ensures c.all_units.ensures in
    rw (names_by (sheet_in t)) (search rules)

pub returns-else-params_named : goal.returns-else-params_named
returns-else-params_named c = λ w.
    let t = c.args.t.now in
    let succs = by_rows (succs_are t) (edge_named (sheet_in t)) in
    let preds = by_rows (preds_are t) (edge_named (sheet_in t)) in
    rw (names_by (sheet_in t)) (search rules)
