-- For `slots_of` and `word_of` of src/ends.rt and `before_inst` of src/wanted.rt: a word of slots, a set of slots, and a list of them. Assumes nothing.
use mathlib.Core.Path.{◌≡◌, refl, sym, ◌∙◌, ap}
use mathlib.Core.Bool.{Bool, true, false, not, ◌&&◌, ◌||◌}
use mathlib.Core.List.{List, [], ◌∷◌, ◌++◌}
use Prim.Native.Nat.{ℕ, zero, suc, ◌+◌, ◌-◌, ◌*◌, ◌/◌, ◌%◌, ◌^◌, ◌≤◌, ◌<◌}
use native.Mathlib.Nat.{div-eq_of_lt, lt_of_lt_of_le}
use native.Mathlib.Omega.{arith}
use lib.Bits.{bit_and, bit_or}
use lib.Pow.{pow_mono}
use lib.ListN.{get_or}
use borrow.Author.Tests.{eq-eqb, ne_eqb, lt-ltb, le-ltb}
use Rattle.laws.specs.Digits.{bit, has_in}
use Rattle.laws.specs.Lists.{is_in, from}
use Rattle.laws.proofs.Bit.{bit_zero, bit_of_and, bit_of_or, bit_not}
use Rattle.laws.proofs.Words.{at_word}
use Rattle.laws.proofs.Cases.{by_lt, by_eq}
use Rattle.laws.proofs.Lists.{is_keep, is_append, keep_in}
use Rattle.bits.specs.Sets.{has, made}
use Rattle.bits.specs.declared.sets.NumberSet.{NumberSet}
use Rattle.entity.specs.Limits.{slot_limit}
use Rattle.dead_spill_elimination.specs.Slots.{Same, list_of}
use Rattle.rules.specs.Sweep.{without_all}
use Rattle.dead_spill_elimination.specs.Worklist.{Word}
use Rattle.dead_spill_elimination.proofs.Members.{is_without_all}

-- a digit past a word's width is not set
pub bit_high : (x k : ℕ) → x < 2 ^ 64 → 64 ≤ k → bit x k ≡ false
unfolding bit
bit_high x k h l = let z : x / 2 ^ k ≡ 0 = div-eq_of_lt (lt_of_lt_of_le h (pow_mono l)) in rw z

-- past the first word there is nothing
none : (w i k : ℕ) → 1 ≤ i → bit (get_or (w ∷ 0 ∷ 0 ∷ 0 ∷ []) i 0) k ≡ false
none w zero k h = absurd (omega arith)
none w (suc zero) k h = bit_zero k
none w (suc (suc zero)) k h = bit_zero k
none w (suc (suc (suc zero))) k h = bit_zero k
none w (suc (suc (suc (suc i)))) k h = bit_zero k

pub set_of_word : (w : ℕ) → w < 2 ^ 64 → (A : List ℕ) → Word w A → Same (made (w ∷ 0 ∷ 0 ∷ 0 ∷ [])) A
unfolding has_in
set_of_word w h A e =
    record {
      at = λ k. by_lt k 64 (λ l. low k l ∙ e k) (λ l. past k l ∙ sym (bit_high w k h l) ∙ e k);
      low = λ k l. sym (e k) ∙ bit_high w k h l;
    }
  where
    low : (k : ℕ) → k < 64 → has (made (w ∷ 0 ∷ 0 ∷ 0 ∷ [])) k ≡ bit w k
    low k l = let z : 0 * 64 + k ≡ k = omega arith in ap (has_in (w ∷ 0 ∷ 0 ∷ 0 ∷ [])) (sym z) ∙ at_word (w ∷ 0 ∷ 0 ∷ 0 ∷ []) 0 k l

    past : (k : ℕ) → 64 ≤ k → has (made (w ∷ 0 ∷ 0 ∷ 0 ∷ [])) k ≡ false
    past k l = none w (k / 64) (k % 64) (omega arith)

pub word_of_set : (S : NumberSet) (A : List ℕ) → get_or S.words 0 0 < 2 ^ 64 → Same S A → Word (get_or S.words 0 0) A
word_of_set S A h s k =
    by_lt k 64
    (λ l. let z : 0 * 64 + k ≡ k = omega arith in sym (ap (has_in S.words) (sym z) ∙ at_word S.words 0 k l) ∙ s.at k)
    (λ l. bit_high (get_or S.words 0 0) k h l ∙ sym (s.low k l))

-- ---- the list of a word

is_from : (k a n : ℕ) → a ≤ k → k < a + n → is_in k (from a n) ≡ true
unfolding is_in from
is_from k a zero h l = absurd (omega arith)
is_from k a (suc n) h l = by_eq k a (λ e. rw (eq-eqb k a e)) (λ e. rw (ne_eqb k a e) (is_from k (suc a) n (omega arith) (omega arith)))

pub list_of_word : (x : ℕ) → x < 2 ^ 64 → Word x (list_of x)
unfolding list_of
list_of_word x h k =
    sym (is_keep k (bit x) (from 0 64)
    ∙ by_lt k 64 (λ l. rw (is_from k 0 64 (omega arith) (omega arith))) (λ l. rw (bit_high x k h l) (last (is_in k (from 0 64)))))
  where
    last : (b : Bool) → (b && false) ≡ false
    last true = refl
    last false = refl

-- a word and a list that have the same members below the limit
pub listed_word : (x : ℕ) (L : List ℕ) → Word x L → ((k : ℕ) → slot_limit ≤ k → is_in k L ≡ false) → (k : ℕ) → is_in k (list_of x) ≡ is_in k L
unfolding list_of
listed_word x L w low k = keep_in (bit x) 64 k ∙ by_lt k 64 (λ l. rw (lt-ltb k 64 l) (w k)) (λ l. rw (le-ltb k 64 l) (sym (low k l)))

-- the word of an instruction: `(w & !d) | u`
pub inst_word : (w d u : ℕ) (A : List ℕ) → w < 2 ^ 64 → d < 2 ^ 64 → u < 2 ^ 64 → Word w A → Word (bit_or (bit_and w ((2 ^ 64 - 1) - d)) u) (list_of u ++ without_all (list_of d) A)
inst_word w d u A hw hd hu e k =
    bit_of_or (bit_and w ((2 ^ 64 - 1) - d)) u k ∙ ap (λ (b : Bool). b || bit u k) (left ∙ ap (λ (b : Bool). b && not (bit d k)) (e k)) ∙ swap (is_in k A && not (bit d k)) (bit u k)
    ∙ sym (is_append k (list_of u) (without_all (list_of d) A)
    ∙ ap (λ (b : Bool). b || is_in k (without_all (list_of d) A)) (sym (list_of_word u hu k))
    ∙ ap (λ (b : Bool). bit u k || b) (is_without_all k (list_of d) A ∙ ap (λ (b : Bool). is_in k A && not b) (sym (list_of_word d hd k))))
  where
    left : bit (bit_and w ((2 ^ 64 - 1) - d)) k ≡ (bit w k && not (bit d k))
    left = bit_of_and w ((2 ^ 64 - 1) - d) k ∙ by_lt k 64 (λ l. rw (bit_not 64 d k hd l)) (λ l. rw (bit_high w k hw l))

    swap : (a b : Bool) → (a || b) ≡ (b || a)
    swap true true = refl
    swap true false = refl
    swap false true = refl
    swap false false = refl
