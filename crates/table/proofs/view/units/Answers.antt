use mathlib.Core.Path.{◌∙◌, ap}
use lib.ListN.{drop}
use Rattle.table.proofs.Views.{units_are}
use Rattle.table.proofs.view.units.Goals as goal

pub returns : goal.returns
returns c = c.rest.ensures ∙ ap (drop 3) c.row_of.ensures ∙ units_are _ _
