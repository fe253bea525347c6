-- For `measured` and `fitted` of src/lib.rt: the answer's text in the buffer, where it fits and where it does not. Assumes nothing.
use Rattle.std.specs.Prelude.{Ok, Err}
use mathlib.Core.Path.{◌≡◌, refl, ◌∙◌, ap}
use mathlib.Core.List.{List}
use Prim.Native.Nat.{ℕ, ◌≤◌, ◌<◌}
use native.Mathlib.Omega.{arith}
use lib.ListN.{length}
use borrow.Author.Tests.{le-leb, lt-leb}
use Rattle.entity.specs.declared.forms.Refusal.TheVariants.{Room}
use Rattle.rules.specs.Forward.{Walk}
use Rattle.rules.specs.Answer.{refused, written, output, fitted, buffer}
use Rattle.table.specs.Sheet.{sheet_in}
use Rattle.answer.specs.Text.{over}
use Rattle.answer.specs.Rows.{answer_most, Stands}
use Rattle.answer.proofs.Laying.{over_fits}
use Rattle.answer.proofs.Few.{Narrow}
use Rattle.answer.proofs.Answer.{answer_most_lem}
use Rattle.drifthurdle.specs.Call.{as_outcome, Gives}

module _ (text out : List ℕ) where
  fits : length text ≤ length out → fitted text (length out) ≡ written text
  unfolding fitted
  fits h = rw (le-leb (length text) (length out) h, fitted)

  fits_not : length out < length text → fitted text (length out) ≡ refused Room
  unfolding fitted
  fits_not h = rw (lt-leb (length text) (length out) h, fitted)

  pub no_room : {n : ℕ} → n ≡ length text → length out < n → Gives (fitted text (length out)) (Err Room) out out
  unfolding as_outcome buffer
  no_room e h = rw (fits_not (omega arith)) (refl, refl)

  pub room : {n : ℕ} {new : List ℕ} → n ≡ length text → n ≤ length out → new ≡ over out 0 text → Gives (fitted text (length out)) (Ok n) out new
  unfolding as_outcome buffer
  room e h l = rw (fits (omega arith)) (ap Ok e, l ∙ over_fits out text (omega arith))

-- an answer that is sure to fit
pub sure : {t edits places counts : List ℕ} {w : Walk} (out : List ℕ) {n most : ℕ} {new : List ℕ} → Stands t edits places counts w → Narrow counts → most ≡ answer_most t → most ≤ length out
    → (n ≡ length (output (sheet_in t) w)) × (new ≡ over out 0 (output (sheet_in t) w)) → Gives (fitted (output (sheet_in t) w) (length out)) (Ok n) out new
sure {t} {w = w} out x c m h r = room (output (sheet_in t) w) out r.0 (omega (arith, r.0, answer_most_lem x c)) r.1
