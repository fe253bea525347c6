-- Laws of `bit` and `word` (specs/Digits.antt): a number's binary digits as a membership test, and what the code's operations on words do to them. Assumes nothing.
use mathlib.Core.Path.{◌≡◌, refl, sym, ap, ◌∙◌}
use mathlib.Core.Bool.{Bool, true, false, not, ◌&&◌, ◌||◌}
use Prim.Native.Nat.{ℕ, zero, suc, ◌+◌, ◌-◌, ◌*◌, ◌/◌, ◌%◌, ◌^◌, ◌<◌}
use native.Mathlib.Nat.{pow-suc, div-one, mul-mod_left, one-mul, mod-eq_of_lt}
use native.Mathlib.Numerals.{one-add}
use native.Mathlib.Omega.{arith}
use lib.Dec.{lit<, eqb, eqb-suc-suc, eqb-suc-zero, eqb-zero-suc}
use lib.Bits.{bit_and, bit_or, and_shr, or_shr, and_mod, or_mod, and_mask}
use lib.Pow.{pow-lt, shr-shr}
use lib.Count.{count_trailing_zeros, under}
use Rattle.laws.specs.Digits.{bit, digit_of, word}

-- what holds of 0 and of 1 holds of a digit
two : (P : ℕ → Type 0) → P 0 → P 1 → (x : ℕ) → x < 2 → P x
two P p q zero h = p
two P p q (suc zero) h = q
two P p q (suc (suc y)) h = absurd (omega arith)

same_digit : (x y : ℕ) → x < 2 → y < 2 → eqb x 1 ≡ eqb y 1 → x ≡ y
same_digit x y p q =
    two (λ (x : ℕ). eqb x 1 ≡ eqb y 1 → x ≡ y)
    (two (λ (y : ℕ). eqb 0 1 ≡ eqb y 1 → 0 ≡ y) (λ e. refl) (λ e. cc) y q)
    (two (λ (y : ℕ). eqb 1 1 ≡ eqb y 1 → 1 ≡ y) (λ e. cc) (λ e. refl) y q) x p

-- ---- and, or

and_digit : (x y : ℕ) → x < 2 → y < 2 → eqb (bit_and x y) 1 ≡ (eqb x 1 && eqb y 1)
and_digit x y p q = two (λ x. eqb (bit_and x y) 1 ≡ (eqb x 1 && eqb y 1)) refl (two (λ y. eqb (bit_and 1 y) 1 ≡ eqb y 1) refl refl y q) x p

or_digit : (x y : ℕ) → x < 2 → y < 2 → eqb (bit_or x y) 1 ≡ (eqb x 1 || eqb y 1)
or_digit x y p q = two (λ x. eqb (bit_or x y) 1 ≡ (eqb x 1 || eqb y 1)) refl (two (λ y. eqb (bit_or 1 y) 1 ≡ true) refl refl y q) x p

pub bit_of_and : (a b k : ℕ) → bit (bit_and a b) k ≡ (bit a k && bit b k)
unfolding bit
bit_of_and a b k = rw (and_shr a b k, and_mod (a / 2 ^ k) (b / 2 ^ k) 1) (and_digit (a / 2 ^ k % 2) (b / 2 ^ k % 2) (omega arith) (omega arith))

pub bit_of_or : (a b k : ℕ) → bit (bit_or a b) k ≡ (bit a k || bit b k)
unfolding bit
bit_of_or a b k = rw (or_shr a b k, or_mod (a / 2 ^ k) (b / 2 ^ k) 1) (or_digit (a / 2 ^ k % 2) (b / 2 ^ k % 2) (omega arith) (omega arith))

-- ---- one digit, then the rest

pub bit_suc : (n k : ℕ) → bit n (suc k) ≡ bit (n / 2) k
unfolding bit
bit_suc n k = ap (λ (x : ℕ). eqb (x % 2) 1) (sym (shr-shr n 1 k ∙ ap (λ (j : ℕ). n / 2 ^ j) (one-add k)))

pub bit_zero : (k : ℕ) → bit 0 k ≡ false
unfolding bit
bit_zero zero = refl
bit_zero (suc k) = bit_suc 0 k ∙ bit_zero k

pub bit_first : (n : ℕ) → bit n 0 ≡ eqb (n % 2) 1
unfolding bit
bit_first n = ap (λ (x : ℕ). eqb (x % 2) 1) (div-one n)

-- `1 << j`
pub bit_pow : (j k : ℕ) → bit (2 ^ j) k ≡ eqb k j
bit_pow zero zero = bit_first 1
bit_pow zero (suc k) = bit_suc 1 k ∙ bit_zero k ∙ sym (eqb-suc-zero k)
bit_pow (suc j) zero = bit_first (2 ^ suc j) ∙ rw (pow-suc, mul-mod_left) (sym (eqb-zero-suc j))
bit_pow (suc j) (suc k) = bit_suc (2 ^ suc j) k ∙ ap (λ (x : ℕ). bit x k) (rw pow-suc (omega arith)) ∙ bit_pow j k ∙ sym (eqb-suc-suc k j)

-- `!a` of a word of w digits
not_digit : (x y : ℕ) → x < 2 → y ≡ 1 - x → eqb y 1 ≡ not (eqb x 1)
not_digit x y h e = rw e (two (λ (x : ℕ). eqb (1 - x) 1 ≡ not (eqb x 1)) refl refl x h)

pub bit_not : (w a k : ℕ) → a < 2 ^ w → k < w → bit ((2 ^ w - 1) - a) k ≡ not (bit a k)
bit_not zero a k h p = absurd (omega arith)
bit_not (suc w) a zero h p =
    let e : 2 ^ suc w ≡ 2 ^ w * 2 = pow-suc 2 w in
    bit_first ((2 ^ suc w - 1) - a) ∙ not_digit (a % 2) (((2 ^ suc w - 1) - a) % 2) (omega arith) (omega arith) ∙ ap not (sym (bit_first a))
bit_not (suc w) a (suc k) h p =
    let e : 2 ^ suc w ≡ 2 ^ w * 2 = pow-suc 2 w in
    bit_suc ((2 ^ suc w - 1) - a) k ∙ ap (λ (x : ℕ). bit x k) (omega arith) ∙ bit_not w (a / 2) k (omega arith) (omega arith) ∙ ap not (sym (bit_suc a k))

-- two words with the same digits are one
pub bit_ext : (w a b : ℕ) → a < 2 ^ w → b < 2 ^ w → ((k : ℕ) → k < w → bit a k ≡ bit b k) → a ≡ b
bit_ext zero a b p q h = omega arith
bit_ext (suc w) a b p q h =
    let e : 2 ^ suc w ≡ 2 ^ w * 2 = pow-suc 2 w in
    let first : a % 2 ≡ b % 2 = same_digit (a % 2) (b % 2) (omega arith) (omega arith) (sym (bit_first a) ∙ h 0 (omega arith) ∙ bit_first b) in
    let rest : a / 2 ≡ b / 2 = bit_ext w (a / 2) (b / 2) (omega arith) (omega arith) (λ k r. sym (bit_suc a k) ∙ h (suc k) (omega arith) ∙ bit_suc b k) in
    omega arith

-- ---- the lowest digit that is set

pub trailing_set : (w n : ℕ) → count_trailing_zeros w n < w → bit n (count_trailing_zeros w n) ≡ true
unfolding count_trailing_zeros
trailing_set zero n h = absurd (omega arith)
trailing_set (suc w) n h =
    two (λ (d : ℕ). n % 2 ≡ d → under d (count_trailing_zeros w (n / 2)) < suc w → bit n (under d (count_trailing_zeros w (n / 2))) ≡ true)
    (λ e h. bit_suc n (count_trailing_zeros w (n / 2)) ∙ trailing_set w (n / 2) (omega arith))
    (λ e h. bit_first n ∙ ap (λ (x : ℕ). eqb x 1) e) (n % 2) (omega arith) refl h

pub trailing_below : (w n k : ℕ) → k < count_trailing_zeros w n → bit n k ≡ false
unfolding count_trailing_zeros
trailing_below zero n k h = absurd (omega arith)
trailing_below (suc w) n zero h =
    two (λ (d : ℕ). n % 2 ≡ d → 0 < under d (count_trailing_zeros w (n / 2)) → bit n 0 ≡ false)
    (λ e h. bit_first n ∙ ap (λ (x : ℕ). eqb x 1) e) (λ e h. absurd (omega arith)) (n % 2) (omega arith) refl h
trailing_below (suc w) n (suc k) h =
    two (λ (d : ℕ). suc k < under d (count_trailing_zeros w (n / 2)) → bit n (suc k) ≡ false)
    (λ h. bit_suc n k ∙ trailing_below w (n / 2) k (omega arith)) (λ h. absurd (omega arith)) (n % 2) (omega arith) h

-- ---- the word of a test: its digits are what the test says

digit_of_lt : (t : Bool) → digit_of t < 2
unfolding digit_of
digit_of_lt true = lit< tt
digit_of_lt false = lit< tt

digit_of_is : (t : Bool) → eqb (digit_of t) 1 ≡ t
unfolding digit_of
digit_of_is true = refl
digit_of_is false = refl

pub word_lt : (f : ℕ → Bool) (b n : ℕ) → word f b n < 2 ^ n
unfolding word
word_lt f b zero = lit< tt
word_lt f b (suc n) =
    let e : 2 ^ suc n ≡ 2 ^ n * 2 = pow-suc 2 n in
    let d : digit_of (f b) < 2 = digit_of_lt (f b) in
    let h : word f (suc b) n < 2 ^ n = word_lt f (suc b) n in omega arith

pub bit_word : (f : ℕ → Bool) (b n k : ℕ) → k < n → bit (word f b n) k ≡ f (b + k)
unfolding word
bit_word f b zero k h = absurd (omega arith)
bit_word f b (suc n) zero h =
    let d : digit_of (f b) < 2 = digit_of_lt (f b) in
    let e : (word f (suc b) n * 2 + digit_of (f b)) % 2 ≡ digit_of (f b) = omega arith in
    bit_first (word f (suc b) n * 2 + digit_of (f b)) ∙ ap (λ (x : ℕ). eqb x 1) e ∙ digit_of_is (f b) ∙ ap f (omega arith)
bit_word f b (suc n) (suc k) h =
    let d : digit_of (f b) < 2 = digit_of_lt (f b) in
    bit_suc (word f (suc b) n * 2 + digit_of (f b)) k ∙ ap (λ (x : ℕ). bit x k) (omega arith) ∙ bit_word f (suc b) n k (omega arith) ∙ ap f (omega arith)

-- ---- the code's own forms, at a word of w digits

-- `(n >> k) & 1 == 1`
pub bit_test : (n k : ℕ) → eqb (bit_and (n / 2 ^ k) 1) 1 ≡ bit n k
unfolding bit
bit_test n k = ap (λ (x : ℕ). eqb x 1) (and_mask (n / 2 ^ k) 1)

one_shifted : (w j : ℕ) → j < w → (1 * 2 ^ j) % 2 ^ w ≡ 2 ^ j
one_shifted w j h = ap (λ (x : ℕ). x % 2 ^ w) (one-mul (2 ^ j)) ∙ mod-eq_of_lt (pow-lt h)

-- `n | (1 << j)`
pub bit_with : (w n j k : ℕ) → j < w → bit (bit_or n ((1 * 2 ^ j) % 2 ^ w)) k ≡ (bit n k || eqb k j)
bit_with w n j k h = rw (one_shifted w j h, bit_of_or, bit_pow)

-- `n & !(1 << j)`
pub bit_without : (w n j k : ℕ) → j < w → k < w → bit (bit_and n ((2 ^ w - 1) - (1 * 2 ^ j) % 2 ^ w)) k ≡ (bit n k && not (eqb k j))
bit_without w n j k h l = rw (one_shifted w j h, bit_of_and, bit_not w (2 ^ j) k (pow-lt h) l, bit_pow)
