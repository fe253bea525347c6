use mathlib.Core.Path.{◌∙◌, ap}
use lib.ListN.{drop}
use Rattle.table.proofs.Views.{members_are}
use Rattle.table.proofs.view.members.Goals as goal

pub returns : goal.returns
returns c = c.rest.ensures ∙ ap (drop 3) c.row_of.ensures ∙ members_are _ _
