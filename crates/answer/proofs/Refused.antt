-- For `render_refused` of src/rows.rt: what a program writes of a refusal, 20 bytes at most. Assumes nothing.
use mathlib.Core.Path.{◌≡◌, ap, ◌∙◌}
use mathlib.Core.List.{◌++◌}
use Prim.Native.Nat.{ℕ, ◌≤◌, ◌<◌}
use native.Mathlib.Omega.{arith}
use lib.ListN.{length, length-append}
use Rattle.entity.specs.Forms.{sum_of}
use Rattle.entity.specs.declared.forms.Refusal.{Refusal}
use Rattle.rules.specs.Text.{bytes}
use Rattle.rules.specs.Cells.{digits_of}
use Rattle.rules.specs.Answer.{refused, printed}
use Rattle.answer.specs.Text.{over, Laid}
use Rattle.answer.specs.declared.text.Writer.{Writer}
use Rattle.answer.proofs.Laying.{laid_as}
use Rattle.answer.proofs.Lines.{refused_line}
use Rattle.answer.proofs.Numbers.{digits_most}

-- the row and its length
row_is : (r : Refusal) {n : ℕ} → n ≡ sum_of r → bytes "refused," ++ (digits_of n ++ bytes "\r\n") ≡ printed (refused r)
unfolding printed
row_is r e = rw e (refused_line (sum_of r))

row_few : (n : ℕ) → n < 4294967296 → length (bytes "refused," ++ (digits_of n ++ bytes "\r\n")) ≤ 20
unfolding bytes
row_few n h =
    omega (arith, length-append (bytes "refused,") (digits_of n ++ bytes "\r\n"), length-append (digits_of n) (bytes "\r\n"), digits_most 9 n (omega arith))

pub row_laid : (r : Refusal) {n : ℕ} {old new : Writer} → n ≡ sum_of r → n < 4294967296 → old.at ≡ 0 → Laid (bytes "refused," ++ (digits_of n ++ bytes "\r\n")) old new
    → (new.at ≡ length (printed (refused r))) × (new.out.now ≡ over old.out.now 0 (printed (refused r))) × (new.at ≤ 20)
row_laid r {n} {old} {new} e h z p =
    let q : Laid (printed (refused r)) old new = laid_as (row_is r e) p in
    let l : length (printed (refused r)) ≤ 20 = rw (row_is r e) at (row_few n h) in
    let x = q.laid (omega arith) in
    (omega (arith, x.1), x.0 ∙ ap (λ (i : ℕ). over old.out.now i (printed (refused r))) z, omega (arith, x.1))
