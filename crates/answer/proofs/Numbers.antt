-- For `put_number` of src/text.rt: the digits of a number, from its last digit and the number without it, and how many they are. Assumes nothing.
use mathlib.Core.Path.{◌≡◌, refl, sym, ap, ◌∙◌}
use mathlib.Core.List.{List, [], ◌∷◌, ◌++◌}
use Prim.Native.Nat.{ℕ, zero, suc, ◌+◌, ◌*◌, ◌/◌, ◌%◌, ◌^◌, ◌≤◌, ◌<◌}
use native.Mathlib.Nat.{div-add-mod', mod-eq_of_lt, pow-suc}
use native.Mathlib.Numerals.{add-one}
use native.Mathlib.Omega.{arith}
use borrow.Author.Tests.{lt-ltb, le-ltb}
use lib.ListN.{length, length-append}
use Rattle.laws.proofs.Cases.{by_lt}
use Rattle.rules.specs.Cells.{digits_in, digits_of}

-- any number of calls above n is enough
digits_calls : (a b n : ℕ) → n < a → n < b → digits_in a n ≡ digits_in b n
unfolding digits_in
digits_calls zero b n h l = absurd (omega arith)
digits_calls (suc a) zero n h l = absurd (omega arith)
digits_calls (suc a) (suc b) n h l =
    by_lt n 10 (λ u. rw (lt-ltb n 10 u, digits_in))
    (λ u.
    let m : n / 10 < n = omega (arith, div-add-mod' n 10) in
    rw (le-ltb n 10 u, digits_in) (ap (λ (s : List ℕ). s ++ ((48 + n % 10) ∷ [])) (digits_calls a b (n / 10) (omega arith) (omega arith))))

-- the bytes of the digits, the last one being b
module _ (n b : ℕ) (e : b ≡ 48 + n % 10) where
  pub digits_one : n < 10 → b ∷ [] ≡ digits_of n
  unfolding digits_of digits_in
  digits_one h =
      let m : n % 10 ≡ n = mod-eq_of_lt h in
      rw (e, m, add-one n, lt-ltb n 10 h, digits_in)

  pub digits_more : 10 ≤ n → digits_of (n / 10) ++ (b ∷ []) ≡ digits_of n
  unfolding digits_of digits_in
  digits_more h =
      let m : n / 10 < n = omega (arith, div-add-mod' n 10) in
      rw (e, digits_calls (n / 10 + 1) n (n / 10) (omega arith) m, add-one n, le-ltb n 10 h, digits_in)

pub digits_two : (n a b : ℕ) → a ≡ 48 + n / 10 % 10 → b ≡ 48 + n % 10 → 10 ≤ n → n < 100 → a ∷ b ∷ [] ≡ digits_of n
digits_two n a b d e h l =
    ap (λ (s : List ℕ). s ++ (b ∷ [])) (digits_one (n / 10) a d (omega (arith, div-add-mod' n 10))) ∙ digits_more n b e h

-- a number below 10 ^ k has k digits at most
one_digit : (n : ℕ) → n < 10 → length (digits_of n) ≡ 1
one_digit n h = ap length (sym (digits_one n (48 + n % 10) refl h))

pub digits_most : (k n : ℕ) → n < 10 ^ suc k → length (digits_of n) ≤ suc k
digits_most zero n h = omega (arith, one_digit n (rw pow-suc at h))
digits_most (suc k) n h =
    by_lt n 10 (λ u. omega (arith, one_digit n u))
    (λ u.
    let most : n < 10 ^ suc k * 10 = rw pow-suc at h in
    let e : length (digits_of (n / 10) ++ ((48 + n % 10) ∷ [])) ≡ length (digits_of n) = ap length (digits_more n (48 + n % 10) refl u) in
    omega (arith, e, length-append (digits_of (n / 10)) ((48 + n % 10) ∷ []), digits_most k (n / 10) (omega (arith, most, div-add-mod' n 10))))
