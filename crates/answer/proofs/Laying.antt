-- Laws of `over` and `Laid` (specs/Text.antt), bytes laid over a buffer: for every function of src/. Assumes nothing.
use mathlib.Core.Path.{◌≡◌, refl, sym, ap, ◌∙◌}
use mathlib.Core.List.{List, [], ◌∷◌, ◌++◌}
use Prim.Native.Nat.{ℕ, suc, ◌+◌, ◌≤◌, ◌<◌}
use native.Mathlib.Nat.{add-zero}
use native.Mathlib.Numerals.{add-one}
use native.Mathlib.Omega.{arith}
use lib.ListN.{length, get_or, take, drop, set, length-append}
use lib.Seq.{sets-eq, take-suc, length-take-le}
use Rattle.answer.specs.Text.{over, Laid}
use Rattle.answer.specs.declared.text.Writer.{Writer}

-- first a, and then b after it
pub over_append : (a b out : List ℕ) (at : ℕ) → over out at (a ++ b) ≡ over (over out at a) (at + length a) b
unfolding over
over_append [] b out at = rw (add-zero at)
over_append (x ∷ a) b out at =
    let e : at + suc (length a) ≡ suc at + length a = omega arith in
    rw e (over_append a b (set out at x) (suc at))

-- from the start, where it fits
pub over_fits : (out text : List ℕ) → length text ≤ length out → over out 0 text ≡ text ++ drop (length text) out
unfolding over
over_fits out text h = let e : 0 + length text ≡ length text = omega arith in sets-eq text out 0 (rw e h) ∙ rw e

-- one byte more of a text
pub over_more : (text out : List ℕ) (at : ℕ) {new : List ℕ} {next i : ℕ} → new ≡ over out at (take i text) → next ≡ at + i → i < length text → set new next (get_or text i 0) ≡ over out at (take (i + 1) text)
unfolding over
over_more text out at {new} {next} {i} e f h =
    let l : length (take i text) ≡ i = length-take-le i text (omega arith) in
    rw (e, f, add-one i, take-suc text i 0 h, over_append (take i text) (get_or text i 0 ∷ []) out at, l) refl

-- ---- what functions lay

pub laid_none : (w : Writer) → Laid [] w w
unfolding over
laid_none w = record { laid = λ h. (refl, sym (add-zero w.at)); kept = refl }

pub laid_then : {a b : List ℕ} {o n m : Writer} → Laid a o n → Laid b n m → Laid (a ++ b) o m
laid_then {a} {b} {o} {n} {m} p q =
    record {
      laid = λ h.
          let e : length (a ++ b) ≡ length a + length b = length-append a b in
          let x = p.laid (omega arith) in
          let y = q.laid (omega (arith, x.1)) in
          (y.0 ∙ ap (λ (l : List ℕ). over l n.at b) x.0 ∙ ap (λ (i : ℕ). over (over o.out.now o.at a) i b) x.1 ∙ sym (over_append a b o.out.now o.at), omega (arith, x.1, y.1));
      kept = q.kept ∙ p.kept;
    }

-- the same text said otherwise
pub laid_as : {a b : List ℕ} {o n : Writer} → a ≡ b → Laid a o n → Laid b o n
laid_as e p = rw e at p
