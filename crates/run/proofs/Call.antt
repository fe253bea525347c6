-- The theorems of specs/Theorem.antt for the call: an accepted sheet, at every level.
use mathlib.Core.Path.{◌≡◌}
use mathlib.Core.Bool.{true}
use Rattle.entity.specs.declared.forms.Level.{Level}
use Rattle.rules.specs.Sheet.{Sheet}
use Rattle.rules.specs.Accept.{within_limits, names_hold}
use Rattle.run.specs.Swept.{SweptRows, optimised, folded_places, edits_before, edits_after}
use Rattle.run.specs.Theorem.{SafeCall, ExactCall}
use Rattle.run.proofs.Stand.{stand_once}
use Rattle.run.proofs.Struck.{sweep_is}
use Rattle.run.proofs.Theorem.{safe_rows, exact_rows}
use Rattle.run.proofs.Within.{accepted_within}

swept_call : (sh : Sheet) (level : Level) → within_limits sh ≡ true → names_hold sh ≡ true → SweptRows sh (folded_places sh level) (edits_before sh level) (edits_after sh level)
swept_call sh level limits names = sweep_is sh (optimised sh level) (accepted_within sh level limits names)

pub safe_call : SafeCall
safe_call sh level limits names = safe_rows sh (folded_places sh level) (edits_before sh level) (edits_after sh level) (swept_call sh level limits names)

pub exact_call : ExactCall
exact_call sh level limits names j l =
    let w = stand_once sh names j l in
    (w.0, w.1, w.2, exact_rows sh (folded_places sh level) (edits_before sh level) (edits_after sh level) (swept_call sh level limits names) w.0 w.1 j w.2.0)
