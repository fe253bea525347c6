use borrow.Author.Rules.{rules}
use Rattle.names.specs.Steps.{machine_within}
use Rattle.rules.specs.Accept.{units_within}
use Rattle.table.proofs.Sheets.{long_of, regs_are, classes_are, groups_are, values_are, vgroups_are}
use Rattle.names.proofs.Rows.{by_rows}
use Rattle.names.proofs.limits.machine_within.Goals as goal

pub returns-then-count-le-LIMIT-4 : goal.returns-then-count-le-LIMIT-4
unfolding machine_within
returns-then-count-le-LIMIT-4 c =
    let t = c.args.t.now in
    let regs = long_of (regs_are t) in
    let units = by_rows (regs_are t) (λ x. units_within x.units) in
    let classes = long_of (classes_are t) in
    let groups = long_of (groups_are t) in
    let values = long_of (values_are t) in
    let vgroups = long_of (vgroups_are t) in
    search rules

pub returns-else-count-le-LIMIT-4 : goal.returns-else-count-le-LIMIT-4
unfolding machine_within
returns-else-count-le-LIMIT-4 c =
    let t = c.args.t.now in
    let regs = long_of (regs_are t) in
    let units = by_rows (regs_are t) (λ x. units_within x.units) in
    let classes = long_of (classes_are t) in
    let groups = long_of (groups_are t) in
    let values = long_of (values_are t) in
    search rules
