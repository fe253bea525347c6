use mathlib.Core.Path.{◌≡◌, sym, ◌∙◌}
use mathlib.Core.Bool.{true}
use Rattle.table.specs.Sheet.{sheet_in}
use Rattle.record.specs.Flat.{record_of}
use Rattle.states.specs.States.{is_set}
use Rattle.states.proofs.TakingIn.{takes, takes_nothing}
use Rattle.states.proofs.Cells.{set_fits}
use Rattle.states.proofs.handed.take_in.Goals as goal

pub returns-then-is_set : goal.returns-then-is_set
returns-then-is_set c = let x = c.args in
    let e : is_set x.states.now x.b.0 ≡ true = sym c.is_set.ensures ∙ c.if-is_set.true in
    takes (sheet_in x.t.now) (record_of x.rec.now) _ x.states.now x.b.0 _ _ e c.begin_empty.ensures (c.take_known.ensures (set_fits x.states.now x.b.0 e)) c.write_all_held.ensures

pub returns-else-is_set : goal.returns-else-is_set
returns-else-is_set c = let x = c.args in takes_nothing (sheet_in x.t.now) (record_of x.rec.now) _ x.states.now x.b.0 (sym c.is_set.ensures ∙ c.if-is_set.false) c.begin_empty.ensures
