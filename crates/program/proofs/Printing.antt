-- For `program` and `output` of src/lib.rt: what the small program writes, off what the call gives. Assumes nothing.
use Rattle.std.specs.Prelude as Code
use Rattle.std.specs.Prelude.{Ok, Err}
use mathlib.Core.Path.{◌≡◌, refl, sym, ap, ◌∙◌}
use mathlib.Core.Bool.{false}
use mathlib.Core.List.{List, ◌++◌}
use mathlib.Core.Option.{Option-elim}
use Prim.Native.Nat.{ℕ, ◌≤◌, ◌<◌, ◌+◌}
use native.Mathlib.Omega.{arith}
use lib.Dec.{leb}
use lib.ListN.{length, take, drop}
use lib.Seq.{take_all, take_at, length-take-le}
use borrow.Author.Tests.{leb-true, leb-false, lt-leb}
use Rattle.laws.proofs.Cases.{by_bool}
use Rattle.entity.specs.Limits.{byte_limit}
use Rattle.entity.specs.declared.forms.Refusal.{Refusal}
use Rattle.rules.specs.Rows.{rows_of}
use Rattle.rules.specs.Answer.{Answer, refused, written, answer, buffer, printed, program, program_room}
use Rattle.answer.specs.Text.{over}
use Rattle.answer.proofs.Laying.{over_fits}
use Rattle.drifthurdle.specs.Call.{as_outcome}
use Rattle.drifthurdle.proofs.Refusing.{outcome_refused, outcome_written}
use Rattle.program.specs.Input.{FirstBytes}

-- ---- the buffer

-- `old` is the buffer at entry, `mid` after the call
module _ (input old : List ℕ) {mid : List ℕ} {o : Code.Result ℕ Refusal} (room : length old ≡ program_room) (e : o ≡ as_outcome (answer input 1 1 (length old)))
    (b : mid ≡ buffer (answer input 1 1 (length old)) old) where
  program_is : (a : Answer) → answer input 1 1 (length old) ≡ a → printed a ≡ program input
  unfolding program
  program_is a q = ap printed (sym q ∙ ap (λ (k : ℕ). answer input 1 1 k) room)

  -- the call left the buffer, and the row is laid over it
  pub prints_refused : {r : Refusal} {n : ℕ} {new : List ℕ} → o ≡ Err r
      → (n ≡ length (printed (refused r))) × (new ≡ over mid 0 (printed (refused r))) × (n ≤ 20)
      → (n ≡ length (program input)) × (new ≡ buffer (written (program input)) old)
  unfolding buffer
  prints_refused {r} {n} {new} f p =
      let q : answer input 1 1 (length old) ≡ refused r = outcome_refused _ (sym f ∙ e) in
      let kept : mid ≡ old = b ∙ ap (λ (a : Answer). buffer a old) q in
      let is : printed (refused r) ≡ program input = program_is _ q in
      let l : length (printed (refused r)) ≤ 20 = rw (sym p.0) p.2 in
      let laid : new ≡ printed (refused r) ++ drop (length (printed (refused r))) old = p.1 ∙ ap (λ (x : List ℕ). over x 0 (printed (refused r))) kept ∙ over_fits old _ (omega arith) in
      (p.0 ∙ ap length is, laid ∙ ap (λ (t : List ℕ). t ++ drop (length t) old) is)

  pub prints_written : {n : ℕ} → o ≡ Ok n → (n ≡ length (program input)) × (mid ≡ buffer (written (program input)) old)
  unfolding buffer printed
  prints_written f =
      let x = outcome_written _ (sym f ∙ e) in
      let is : x.0 ≡ program input = program_is _ x.1 in
      (x.2 ∙ ap length is, b ∙ ap (λ (a : Answer). buffer a old) (x.1 ∙ ap written is))

-- ---- what is read

-- "sheet over 65,536 bytes": one byte more tells
rows_of_first : (s : List ℕ) → rows_of (take (byte_limit + 1) s) ≡ rows_of s
unfolding rows_of
rows_of_first s =
    by_bool (leb (length s) byte_limit)
    (λ p. let h : length s ≤ byte_limit = leb-true _ _ p in ap rows_of (take_all (byte_limit + 1) s (omega arith)))
    (λ p.
    let h : byte_limit < length s = leb-false _ _ p in
    let l : length (take (byte_limit + 1) s) ≡ byte_limit + 1 = length-take-le (byte_limit + 1) s (omega arith) in
    let q : leb (length (take (byte_limit + 1) s)) byte_limit ≡ false = lt-leb (length (take (byte_limit + 1) s)) byte_limit (omega arith) in
    rw (p, q))

program_of_first : (s : List ℕ) → program (take (byte_limit + 1) s) ≡ program s
unfolding program answer Option-elim
program_of_first s = rw (rows_of_first s)

pub prints_input : (standard input old : List ℕ) {bytes new : List ℕ} (read : ℕ) {n : ℕ} → length input ≡ byte_limit + 1 → FirstBytes standard input read → bytes ≡ take read input
    → (n ≡ length (program bytes)) × (new ≡ buffer (written (program bytes)) old) → take n new ≡ program standard
unfolding buffer
prints_input standard input old {bytes} {new} read {n} l h e p =
    let f : bytes ≡ take (byte_limit + 1) standard = e ∙ h ∙ ap (λ (k : ℕ). take k standard) l in
    let is : program bytes ≡ program standard = ap program f ∙ program_of_first standard in
    rw (p.0, p.1) (take_at (program bytes) _ _ refl) ∙ is
