use mathlib.Core.Path.{◌∙◌, ap}
use Rattle.rules.specs.Sheet.{field, maybe}
use Rattle.table.specs.View.{slot_found}
use Rattle.table.proofs.Views.{home_past, home_is, slot_dash, slot_some}
use Rattle.table.proofs.view.home.Goals as goal

pub returns-then-count-v : goal.returns-then-count-v
returns-then-count-v c = home_past _ _ c.count.ensures c.if-count-v.true

pub returns-then-c-eq-DASH : goal.returns-then-c-eq-DASH
returns-then-c-eq-DASH c = let e = c.read-c.ensures ∙ ap (field 2) c.row_of.ensures in slot_dash _ c.if-c-eq-DASH.true ∙ ap (λ n. slot_found (maybe n)) e ∙ home_is _ _ c.count.ensures c.if-count-v.false

pub returns : goal.returns
returns c = let e = c.read-c.ensures ∙ ap (field 2) c.row_of.ensures in slot_some _ c.if-c-eq-DASH.false ∙ ap (λ n. slot_found (maybe n)) e ∙ home_is _ _ c.count.ensures c.if-count-v.false
