use mathlib.Core.Path.{◌∙◌, ap, sym}
use Rattle.rules.specs.Sheet.{field}
use Rattle.table.proofs.Sheets.{slots_are}
use Rattle.table.proofs.view.slot_count.Goals as goal

pub returns : goal.returns
returns c = c.read.ensures ∙ ap (field 1) c.row_of.ensures ∙ sym (slots_are _)
