use mathlib.Core.Path.{◌∙◌, ap}
use Rattle.rules.specs.Sheet.{field, maybe}
use Rattle.table.specs.View.{block_found}
use Rattle.table.proofs.Views.{idom_past, idom_is, block_dash, block_some}
use Rattle.table.proofs.view.idom.Goals as goal

pub returns-then-count-b : goal.returns-then-count-b
returns-then-count-b c = idom_past _ _ c.count.ensures c.if-count-b.true

pub returns-then-c-eq-DASH : goal.returns-then-c-eq-DASH
returns-then-c-eq-DASH c = let e = c.read-c.ensures ∙ ap (field 3) c.row_of.ensures in block_dash _ c.if-c-eq-DASH.true ∙ ap (λ n. block_found (maybe n)) e ∙ idom_is _ _ c.count.ensures c.if-count-b.false

pub returns : goal.returns
returns c = let e = c.read-c.ensures ∙ ap (field 3) c.row_of.ensures in block_some _ c.if-c-eq-DASH.false ∙ ap (λ n. block_found (maybe n)) e ∙ idom_is _ _ c.count.ensures c.if-count-b.false
