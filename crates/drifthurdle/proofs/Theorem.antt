-- For specs/Theorem.antt: the sweep between two answers of the call. Assumes nothing.
use mathlib.Core.Path.{◌≡◌, sym, ◌∙◌}
use mathlib.Core.Option.{none, some}
use Rattle.entity.specs.declared.forms.Level.{Level}
use Rattle.std.specs.Prelude.{Some}
use Rattle.rules.specs.Sheet.{Sheet, sheet_of}
use Rattle.rules.specs.Answer.{first_refusal, checks, cleaned}
use Rattle.run.specs.Swept.{folded_places, edits_before, edits_after}
use Rattle.run.proofs.Call.{safe_call, exact_call}
use Rattle.accepted.proofs.Giving.{passed}
use Rattle.drifthurdle.specs.Theorem.{SafeAndExact, SweepIsSafeAndExact}
use Rattle.drifthurdle.proofs.Refusing.{wrote}

-- between the edits of an accepted sheet before the sweep and after it
safe_and_exact : (sh : Sheet) (level : Level) → first_refusal (checks sh) ≡ none → SafeAndExact sh (folded_places sh level) (edits_before sh level) (edits_after sh level)
safe_and_exact sh level e =
    let p = passed sh e in
    record { safe = safe_call sh level p.limits p.names; exact = exact_call sh level p.limits p.names }

pub sweep_is_safe_and_exact : SweepIsSafeAndExact
unfolding cleaned
sweep_is_safe_and_exact sheet level capacity capacity' plain swept e f =
    let x = wrote sheet level 0 capacity plain e in
    let y = wrote sheet level 1 capacity' swept f in
    let r : y.rows ≡ x.rows = let z : some y.rows ≡ some x.rows = sym y.rows_are ∙ x.rows_are in cc in
    let n : y.named ≡ x.named = let z : Some y.named ≡ Some x.named = sym y.level_is ∙ x.level_is in cc in
    record {
      rows = x.rows;
      named = x.named;
      rows_are = x.rows_are;
      level_is = x.level_is;
      before = x.text;
      after = rw (r, n) at y.text;
      holds = safe_and_exact (sheet_of x.rows) x.named x.pass;
    }
