-- `digits_of n` is made of digits, without a leading zero, and its decimal value is n, for every n.
use Prim.Native.Nat.{ℕ, zero, suc, ◌+◌, ◌-◌, ◌*◌, ◌/◌, ◌%◌, ◌≤◌, ◌<◌}
use mathlib.Core.Path.{◌≡◌, refl, ◌∙◌, sym}
use mathlib.Core.Bool.{Bool, true, false, and-eq-true_iff, or-true}
use mathlib.Core.List.{List, [], ◌∷◌, ◌++◌}
use lib.Dec.{ltb, eqb}
use lib.ListN.{length, get_or, length-append, get_or-append}
use native.Mathlib.Nat.{div-add-mod', mod-lt}
use native.Mathlib.Omega.{arith}
use borrow.Author.Tests.{le-leb, ne_eqb, ltb-true, ltb-false}
use Rattle.laws.specs.Lists.{all}
use Rattle.rules.specs.Cells.{is_digit, decimal, no_leading_zero, digits_in, digits_of}
use Rattle.rules.specs.Sheets.{Digits}

digit : (n : ℕ) → n < 10 → is_digit (48 + n) ≡ true
unfolding is_digit
digit n h = rw (le-leb 48 (48 + n) (omega arith), le-leb (48 + n) 57 (omega arith))

decimal_more : (v : ℕ) (s : List ℕ) (b : ℕ) → decimal v (s ++ (b ∷ [])) ≡ decimal v s * 10 + (b - 48)
unfolding decimal
decimal_more v [] b = refl
decimal_more v (a ∷ s) b = decimal_more (v * 10 + (a - 48)) s b

all_more : (s : List ℕ) (b : ℕ) → all is_digit s ≡ true → is_digit b ≡ true → all is_digit (s ++ (b ∷ [])) ≡ true
all_more [] b h k = rw k
all_more (a ∷ s) b h k =
    let both = (and-eq-true_iff (is_digit a) (all is_digit s)).0 h in
    rw both.0 (all_more s b both.1 k)

-- for the step: the first digit is 0 only for 0
record Made (n : ℕ) (s : List ℕ) : Type 0 where
  known : Digits n s
  front : 1 ≤ n → get_or s 0 0 ≡ 48 → ⊥

last : (n : ℕ) → n < 10 → Made n ((48 + n) ∷ [])
unfolding decimal no_leading_zero
last n h = record {
  known = record { made = rw digit; some = omega arith; front = refl; value = omega arith };
  front = λ l e. omega arith;
}

more : (n : ℕ) (s : List ℕ) → 10 ≤ n → Made (n / 10) s → Made n (s ++ ((48 + n % 10) ∷ []))
unfolding no_leading_zero
more n s h m =
    let t : List ℕ = s ++ ((48 + n % 10) ∷ []) in
    let low : n % 10 < 10 = mod-lt n (omega arith) in
    let same : get_or t 0 0 ≡ get_or s 0 0 = get_or-append s ((48 + n % 10) ∷ []) 0 0 m.known.some in
    let up : 1 ≤ n / 10 = omega (arith, div-add-mod' n 10) in
    let first : get_or t 0 0 ≡ 48 → ⊥ = λ e. m.front up (sym same ∙ e) in
    record {
      known = record {
        made = all_more s (48 + n % 10) m.known.made (digit (n % 10) low);
        some = omega (arith, length-append s ((48 + n % 10) ∷ []));
        front = rw (ne_eqb (get_or t 0 0) 48 first) (or-true (eqb (length t) 1));
        value = rw (decimal_more, m.known.value) (omega (arith, div-add-mod' n 10));
      };
      front = λ l. first;
    }

step : (calls n : ℕ) (t : Bool) → ltb n 10 ≡ t → (n / 10 < calls → Made (n / 10) (digits_in calls (n / 10))) → n < suc calls → Made n (digits_in (suc calls) n)
unfolding digits_in
step calls n true e made h = rw (e, digits_in) (last n (ltb-true n 10 e))
step calls n false e made h =
    let big : 10 ≤ n = ltb-false n 10 e in
    rw (e, digits_in) (more n (digits_in calls (n / 10)) big (made (omega (arith, div-add-mod' n 10))))

made_in : (calls n : ℕ) → n < calls → Made n (digits_in calls n)
made_in zero n h = absurd (omega arith)
made_in (suc calls) n h = step calls n (ltb n 10) refl (made_in calls (n / 10)) h

pub digits_of_lem : (n : ℕ) → Digits n (digits_of n)
unfolding digits_of
digits_of_lem n = (made_in (n + 1) n (omega arith)).known
