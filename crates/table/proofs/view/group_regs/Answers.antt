use mathlib.Core.Path.{◌∙◌, ap}
use lib.ListN.{drop}
use Rattle.table.proofs.Views.{group_regs_are}
use Rattle.table.proofs.view.group_regs.Goals as goal

pub returns : goal.returns
returns c = c.rest.ensures ∙ ap (drop 3) c.row_of.ensures ∙ group_regs_are _ _
