use mathlib.Core.Path.{◌∙◌, ap}
use Rattle.rules.specs.Sheet.{field}
use Rattle.table.proofs.Views.{instructions_are}
use Rattle.table.proofs.view.inst_count.Goals as goal

pub returns : goal.returns
returns c = c.read.ensures ∙ ap (field 2) c.row_of.ensures ∙ instructions_are _ _
