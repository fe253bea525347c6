use mathlib.Core.Path.{◌∙◌, ap}
use Rattle.rules.specs.Sheet.{field}
use Rattle.table.proofs.Views.{edit_at_is}
use Rattle.table.proofs.view.edit_at.Goals as goal

pub returns : goal.returns
returns c = c.read.ensures ∙ ap (field 1) c.row_of.ensures ∙ edit_at_is _ _
