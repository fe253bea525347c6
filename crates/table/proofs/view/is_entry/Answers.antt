use mathlib.Core.Path.{◌∙◌, ap}
use Rattle.rules.specs.Sheet.{field, flag_of}
use Rattle.table.proofs.Views.{entry_is}
use Rattle.table.proofs.view.is_entry.Goals as goal

pub returns : goal.returns
unfolding flag_of
returns c = ap flag_of (c.read.ensures ∙ ap (field 4) c.row_of.ensures) ∙ entry_is _ _
