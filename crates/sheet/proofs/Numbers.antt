-- For `digits` of src/fields.rt and `number` of src/lexing.rt: the number that the digits at the head are. Assumes nothing.
use mathlib.Core.Path.{◌≡◌}
use mathlib.Core.Bool.{true, false, cond, ◌&&◌, and-false}
use mathlib.Core.List.{List, [], ◌∷◌}
use mathlib.Core.Option.{none, some}
use Prim.Native.Nat.{ℕ, ◌+◌, ◌-◌, ◌*◌, ◌^◌, ◌<◌, ◌≤◌}
use native.Mathlib.Nat.{pow-suc, pow-succ', pow-le-pow_right, mul_assoc, mul-one, mul-le-mul_right, lt_of_lt_of_le}
use native.Mathlib.Numerals.{add-one}
use native.Mathlib.Omega.{arith}
use lib.ListN.{length}
use lib.Dec.{leb}
use borrow.Author.Tests.{le-leb, lt-leb, leb-true}
use Rattle.laws.specs.Lists.{all}
use Rattle.laws.proofs.Cases.{by_bool, by_lt, and_parts}
use Rattle.rules.specs.Cells.{is_digit, decimal, no_leading_zero, number_of, number_limit}
use Rattle.sheet.specs.Answers.{lead, plain_head, number_from}
use Rattle.sheet.proofs.Pieces.{lead_all, lead_few, lead_first}

-- ---- a digit

pub digit_is : (b : ℕ) → is_digit b ≡ true → (48 ≤ b) × (b ≤ 57)
unfolding is_digit
digit_is b e = let x = and_parts (leb 48 b) (leb b 57) e in (leb-true 48 b x.0, leb-true b 57 x.1)

-- one digit more, of at most five: the number stays below 10 ^ k
pub room : (k v : ℕ) → k < 5 → v < 10 ^ k → v < 10000
room k v h l = omega (arith, pow-le-pow_right {n = 10} (omega arith) {i = k} {j = 4} (omega arith))

pub grown : (k v d : ℕ) → v < 10 ^ k → d ≤ 9 → v * 10 + d < 10 ^ (k + 1)
grown k v d l u = rw (add-one, pow-suc) (omega arith)

-- ---- the number

pub number_head : (t : List ℕ) → number_of (lead is_digit 5 t) ≡ cond (plain_head t (length (lead is_digit 5 t))) (some (decimal 0 (lead is_digit 5 t))) none
unfolding number_of no_leading_zero plain_head
number_head t =
    let g = lead is_digit 5 t in
    by_lt 0 (length g) (λ h. rw (lead_all is_digit 5 t, le-leb (length g) 5 (lead_few is_digit 5 t), le-leb 1 (length g) h, lead_first is_digit 5 t h))
    (λ h. rw (lt-leb 1 (length g) (omega arith), and-false))

pub number_out : (base : ℕ) (f : List ℕ) → (all is_digit f && leb (length f) 5) ≡ false → number_from base f ≡ none
unfolding number_from number_of
number_out base f e = by_bool (all is_digit f) (λ d. rw (d, rw d at e, and-false)) (λ d. rw d)

-- ---- a number is below 100000

bound : (f : List ℕ) (v : ℕ) → all is_digit f ≡ true → decimal v f < (v + 1) * 10 ^ length f
unfolding decimal
bound [] v d = rw mul-one (omega arith)
bound (b ∷ bs) v d =
    let h = and_parts (is_digit b) (all is_digit bs) d in
    rw (pow-succ', ← mul_assoc)
    (lt_of_lt_of_le (bound bs (v * 10 + (b - 48)) h.1) (mul-le-mul_right (10 ^ length bs) (omega (arith, digit_is b h.0))))

pub head_below : (t : List ℕ) → decimal 0 (lead is_digit 5 t) < number_limit
head_below t =
    omega (arith, bound (lead is_digit 5 t) 0 (lead_all is_digit 5 t), pow-le-pow_right {n = 10} (omega arith) {i = length (lead is_digit 5 t)} {j = 5} (lead_few is_digit 5 t))
