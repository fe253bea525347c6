use mathlib.Core.Path.{◌∙◌}
use mathlib.Core.List.{[]}
use borrow.Author.Rules.{rules}
use Rattle.table.specs.Sheet.{sheet_in}
use Rattle.table.proofs.Sheets.{groups_are}
use Rattle.names.proofs.Rows.{all_turns}
use Rattle.names.proofs.Totals.{apart, heads_by}
use Rattle.names.proofs.names.heads_apart.Goals as goal

pub returns : goal.returns
returns c =
    all_turns (groups_are _) c.count.ensures c.all.ensures.ran (apart (record { class = 0; regs = [] }) (sheet_in c.args.t.now).groups) (λ i b q k. search rules)
    ∙ heads_by (record { class = 0; regs = [] }) (sheet_in c.args.t.now).groups
