-- `sheet::fields::digits` meets its contract. The invariant: the digits from k on lead v to the number of all, and there are k more of all; v has at most k digits.
-- Assumes nothing.
use mathlib.Core.Path.{◌≡◌, refl, sym, ◌∙◌, ap}
use mathlib.Core.Bool.{true}
use Prim.Native.Nat.{◌-◌}
use native.Mathlib.Omega.{arith}
use lib.ListN.{length, drop}
use Rattle.rules.specs.Cells.{is_digit, decimal}
use Rattle.sheet.proofs.Pieces.{lead_more, lead_stop, lead_done}
use Rattle.sheet.proofs.Numbers.{digit_is, room, grown}
use Rattle.sheet.proofs.fields.digits.Goals as goal

pub loop-k-init : goal.loop-k-init
unfolding decimal is_digit
loop-k-init c = (refl, omega arith, omega arith)

pub returns-then-not-is_digit : goal.returns-then-not-is_digit
unfolding decimal is_digit
returns-then-not-is_digit c = let t = c.args.t.now in let e = lead_stop is_digit (5 - c.loop-k.k) t c.loop-k.k (ap is_digit (sym c.read-b.ensures) ∙ sym c.is_digit.ensures ∙ c.if-not-is_digit.true) in (sym (c.loop-k.invariant.0 ∙ rw e), omega (arith, ap length e))

pub overflow_mul-v : goal.overflow_mul-v
unfolding decimal is_digit
overflow_mul-v c = let l = c.loop-k in omega (arith, room l.k l.v (omega arith) l.invariant.2)

pub overflow_sub-v : goal.overflow_sub-v
unfolding decimal is_digit
overflow_sub-v c = let d : is_digit c.read-b.result ≡ true = sym c.is_digit.ensures ∙ c.if-not-is_digit.false in omega (arith, digit_is c.read-b.result d)

pub overflow_cast-v : goal.overflow_cast-v
unfolding decimal is_digit
overflow_cast-v c = let d : is_digit c.read-b.result ≡ true = sym c.is_digit.ensures ∙ c.if-not-is_digit.false in omega (arith, digit_is c.read-b.result d)

pub overflow_add-v : goal.overflow_add-v
unfolding decimal is_digit
overflow_add-v c = let l = c.loop-k in let d : is_digit c.read-b.result ≡ true = sym c.is_digit.ensures ∙ c.if-not-is_digit.false in omega (arith, room l.k l.v (omega arith) l.invariant.2, digit_is c.read-b.result d)

pub loop-k-preserved : goal.loop-k-preserved
unfolding decimal is_digit
loop-k-preserved c = let d : is_digit c.read-b.result ≡ true = sym c.is_digit.ensures ∙ c.if-not-is_digit.false in let t = c.args.t.now in
    let r = c.read-b.ensures in
    let m = lead_more is_digit 5 t c.loop-k.k refl (omega arith) (ap is_digit (sym r) ∙ d) in
    (c.loop-k.invariant.0 ∙ rw (m, r), omega (arith, ap length m), grown c.loop-k.k c.loop-k.v (c.read-b.result - 48) c.loop-k.invariant.2 (omega (arith, digit_is c.read-b.result d)))

pub returns : goal.returns
unfolding decimal is_digit
returns c = let e = lead_done is_digit 5 (drop c.loop-k.k c.args.t.now) c.loop-k.k (omega arith) in (sym (c.loop-k.invariant.0 ∙ rw e), omega (arith, ap length e))
