use mathlib.Core.Path.{◌∙◌, ap}
use Rattle.rules.specs.Sheet.{field}
use Rattle.table.proofs.Views.{class_is}
use Rattle.table.proofs.view.group_class.Goals as goal

pub returns : goal.returns
returns c = c.read.ensures ∙ ap (field 2) c.row_of.ensures ∙ class_is _ _
