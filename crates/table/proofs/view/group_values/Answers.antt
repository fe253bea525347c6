use mathlib.Core.Path.{◌∙◌, ap}
use lib.ListN.{drop}
use Rattle.table.proofs.Views.{group_values_are}
use Rattle.table.proofs.view.group_values.Goals as goal

pub returns : goal.returns
returns c = c.rest.ensures ∙ ap (drop 2) c.row_of.ensures ∙ group_values_are _ _
