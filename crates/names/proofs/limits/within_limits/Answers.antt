use borrow.Author.Rules.{rules}
use Rattle.rules.specs.Sheet.{inst_count, list_row}
use Rattle.rules.specs.Accept.{units_within}
use Rattle.table.specs.Sheet.{sheet_in}
use Rattle.table.proofs.Sheets.{long_of, blocks_are, ops_are, clobs_are, edits_are}
use Rattle.names.proofs.Rows.{by_rows}
use Rattle.names.proofs.Totals.{capped_test}
use Rattle.names.proofs.Within.{limits_by}
use Rattle.names.proofs.limits.within_limits.Goals as goal

pub returns-then-lists_within : goal.returns-then-lists_within
unfolding list_row
returns-then-lists_within c =
    let t = c.args.t.now in
    let blocks = long_of (blocks_are t) in
    let insts = capped_test (inst_count (sheet_in t)) in
    let ops = long_of (ops_are t) in
    let units = by_rows (clobs_are t) (λ x. units_within x.list) in
    let edits = long_of (edits_are t) in
    rw (limits_by (sheet_in t)) (search rules)

pub returns-else-lists_within : goal.returns-else-lists_within
unfolding list_row
returns-else-lists_within c =
    let t = c.args.t.now in
    let blocks = long_of (blocks_are t) in
    let insts = capped_test (inst_count (sheet_in t)) in
    let ops = long_of (ops_are t) in
    let units = by_rows (clobs_are t) (λ x. units_within x.list) in
    rw (limits_by (sheet_in t)) (search rules)
