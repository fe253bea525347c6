-- Laws of `has_in` and `words_of` (specs/Digits.antt): a set as the digits of a list of 64-bit words, over the list alone. How many words is n: no law names a size.
-- Assumes nothing.
use mathlib.Core.Path.{◌≡◌, refl, sym, ap, ◌∙◌}
use mathlib.Core.Bool.{Bool, true, false, not, ◌&&◌, ◌||◌, or-false, and-true}
use mathlib.Core.List.{List}
use Prim.Native.Nat.{ℕ, zero, suc, ◌+◌, ◌-◌, ◌*◌, ◌/◌, ◌%◌, ◌^◌, ◌≤◌, ◌<◌}
use native.Mathlib.Nat.{mod-lt, lt_of_le_of_lt}
use native.Mathlib.Omega.{arith}
use mir.Syntax.{w64}
use mir.Val.{Fits}
use lib.Dec.{eqb, lit<}
use lib.ListN.{length, get_or, set, length-set, replicate, length-replicate, get_or-replicate, get_or-eq_default}
use lib.Seq.{ext_get_or, get_or-set_same, get_or-set_other}
use lib.Bits.{bit_and, bit_or, or_lt, and_le_l}
use lib.Count.{count_trailing_zeros}
use borrow.Author.Tests.{ne_eqb}
use Rattle.laws.specs.Digits.{bit, has_in, words_of}
use Rattle.laws.proofs.Bit.{word_lt, bit_word, bit_ext, bit_zero, bit_of_and, bit_of_or, bit_with, bit_without, trailing_set, trailing_below}
use Rattle.laws.proofs.Cases.{by_lt, by_eq, eqb_same}

-- what owning an array of n words tells
pub record Words (n : ℕ) (ws : List ℕ) : Type 0 where
  pub long : length ws ≡ n
  pub each : (i : ℕ) → i < n → get_or ws i 0 < 2 ^ 64

-- from what a need is handed: `words (search needs) (λ i. search needs)`
pub words : {ws : List ℕ} {n : ℕ} → length ws ≡ n → ((i : ℕ) → Fits w64 (get_or ws i 0)) → Words n ws
words m p = record { long = m; each = λ i h. (p i).fits }

length_words_of : (f : ℕ → Bool) (b n : ℕ) → length (words_of f b n) ≡ n
unfolding words_of
length_words_of f b zero = refl
length_words_of f b (suc n) = ap suc (length_words_of f (b + 64) n)

each_words_of : (f : ℕ → Bool) (b n i : ℕ) → get_or (words_of f b n) i 0 < 2 ^ 64
unfolding words_of
each_words_of f b zero i = lit< tt
each_words_of f b (suc n) zero = word_lt f b 64
each_words_of f b (suc n) (suc i) = each_words_of f (b + 64) n i

bit_words_of : (f : ℕ → Bool) (b n i k : ℕ) → i < n → k < 64 → bit (get_or (words_of f b n) i 0) k ≡ f (b + (i * 64 + k))
unfolding words_of
bit_words_of f b zero i k h l = absurd (omega arith)
bit_words_of f b (suc n) zero k h l = bit_word f b 64 k l ∙ ap f (omega arith)
bit_words_of f b (suc n) (suc i) k h l = bit_words_of f (b + 64) n i k (omega arith) l ∙ ap f (omega arith)

-- the members are what f says
pub has_words_of : (n : ℕ) (f : ℕ → Bool) (k : ℕ) → k < n * 64 → has_in (words_of f 0 n) k ≡ f k
unfolding has_in
has_words_of n f k h = bit_words_of f 0 n (k / 64) (k % 64) (omega arith) (omega arith) ∙ ap f (omega arith)

pub at_word : (ws : List ℕ) (i k : ℕ) → k < 64 → has_in ws (i * 64 + k) ≡ bit (get_or ws i 0) k
unfolding has_in
at_word ws i k h =
    let d : (i * 64 + k) / 64 ≡ i = omega arith in
    let m : (i * 64 + k) % 64 ≡ k = omega arith in rw (d, m)

-- words that agree on every member are the same words
pub words_ext : (n : ℕ) (ws vs : List ℕ) → Words n ws → Words n vs → ((k : ℕ) → k < n * 64 → has_in ws k ≡ has_in vs k) → ws ≡ vs
words_ext n ws vs p q h =
    ext_get_or 0 ws vs (p.long ∙ sym q.long)
    (λ i l.
    let m : length ws ≡ n = p.long in
    bit_ext 64 (get_or ws i 0) (get_or vs i 0) (p.each i (omega arith)) (q.each i (omega arith))
    (λ k u. sym (at_word ws i k u) ∙ h (i * 64 + k) (omega arith) ∙ at_word vs i k u))

pub of_words : (n : ℕ) (f : ℕ → Bool) → Words n (words_of f 0 n)
of_words n f = record { long = length_words_of f 0 n; each = λ i l. each_words_of f 0 n i }

pub is_words_of : (n : ℕ) (f : ℕ → Bool) (ws : List ℕ) → Words n ws → ((k : ℕ) → k < n * 64 → has_in ws k ≡ f k) → ws ≡ words_of f 0 n
is_words_of n f ws p h =
    words_ext n ws (words_of f 0 n) p (of_words n f)
    (λ k l. h k l ∙ sym (has_words_of n f k l))

-- ---- the code's operations

pub empty_is : (n : ℕ) → replicate n 0 ≡ words_of (λ k. false) 0 n
unfolding has_in
empty_is n =
    is_words_of n (λ k. false) (replicate n 0)
    (record { long = length-replicate n 0; each = λ i h. rw (get_or-replicate {A = ℕ} n i 0 0 h) (lit< tt) })
    (λ k l. ap (λ (w : ℕ). bit w (k % 64)) (get_or-replicate n (k / 64) 0 0 (omega arith)) ∙ bit_zero (k % 64))

-- what holds of each element holds of each after a store of one for which it holds
each_set : (P : ℕ → Type 0) (n : ℕ) (l : List ℕ) (j v : ℕ) → j < length l → P v → ((i : ℕ) → i < n → P (get_or l i 0)) → (i : ℕ) → i < n → P (get_or (set l j v) i 0)
each_set P n l j v h p q i u = by_eq i j (λ e. rw (e, get_or-set_same l j v 0 h) p) (λ d. rw (get_or-set_other l j i v 0 d) (q i u))

module _ (n : ℕ) (ws : List ℕ) (p : Words n ws) (r : ℕ) (h : r < n * 64) where
  -- the word of r is stored anew, and its digits say f
  stored_is : (f : ℕ → Bool) (v : ℕ) → v < 2 ^ 64 → ((k : ℕ) → k / 64 ≡ r / 64 → bit v (k % 64) ≡ f k) → ((k : ℕ) → (k / 64 ≡ r / 64 → ⊥) → has_in ws k ≡ f k)
      → set ws (r / 64) v ≡ words_of f 0 n
  unfolding has_in
  stored_is f v b same other =
      let m : length ws ≡ n = p.long in
      let l : r / 64 < length ws = omega arith in
      is_words_of n f (set ws (r / 64) v)
      (record { long = length-set ws (r / 64) v ∙ m; each = each_set (λ (x : ℕ). x < 2 ^ 64) n ws (r / 64) v l b p.each })
      (λ k u.
      by_eq (k / 64) (r / 64)
      (λ e. ap (λ (w : ℕ). bit w (k % 64)) (ap (λ (i : ℕ). get_or (set ws (r / 64) v) i 0) e ∙ get_or-set_same ws (r / 64) v 0 l) ∙ same k e)
      (λ d. ap (λ (w : ℕ). bit w (k % 64)) (get_or-set_other ws (r / 64) (k / 64) v 0 d) ∙ other k d))

  own : (k : ℕ) → k / 64 ≡ r / 64 → has_in ws k ≡ bit (get_or ws (r / 64) 0) (k % 64)
  unfolding has_in
  own k e = ap (λ (i : ℕ). bit (get_or ws i 0) (k % 64)) e

  same_slot : (k : ℕ) → k / 64 ≡ r / 64 → eqb (k % 64) (r % 64) ≡ eqb k r
  same_slot k e = eqb_same (k % 64) (r % 64) k r (λ q. omega arith) (λ q. ap (λ (x : ℕ). x % 64) q)

  other_slot : (k : ℕ) → (k / 64 ≡ r / 64 → ⊥) → eqb k r ≡ false
  other_slot k d = ne_eqb k r (λ e. d (ap (λ (x : ℕ). x / 64) e))

  pub insert_is : set ws (r / 64) (bit_or (get_or ws (r / 64) 0) ((1 * 2 ^ (r % 64)) % 2 ^ 64)) ≡ words_of (λ k. has_in ws k || eqb k r) 0 n
  insert_is =
      stored_is (λ k. has_in ws k || eqb k r) (bit_or (get_or ws (r / 64) 0) ((1 * 2 ^ (r % 64)) % 2 ^ 64)) (or_lt 64 _ _ (p.each (r / 64) (omega arith)) (mod-lt _ (lit< tt)))
      (λ k e. rw (own k e, ← same_slot k e) (bit_with 64 (get_or ws (r / 64) 0) (r % 64) (k % 64) (omega arith)))
      (λ k d. rw (other_slot k d, or-false))

  pub remove_is : set ws (r / 64) (bit_and (get_or ws (r / 64) 0) ((2 ^ 64 - 1) - (1 * 2 ^ (r % 64)) % 2 ^ 64)) ≡ words_of (λ k. has_in ws k && not (eqb k r)) 0 n
  remove_is =
      stored_is (λ k. has_in ws k && not (eqb k r)) (bit_and (get_or ws (r / 64) 0) ((2 ^ 64 - 1) - (1 * 2 ^ (r % 64)) % 2 ^ 64)) (lt_of_le_of_lt (and_le_l _ _) (p.each (r / 64) (omega arith)))
      (λ k e. rw (own k e, ← same_slot k e) (bit_without 64 (get_or ws (r / 64) 0) (r % 64) (k % 64) (omega arith) (omega arith)))
      (λ k d. rw (other_slot k d, and-true))

module _ (n : ℕ) (ws : List ℕ) (p : Words n ws) (r : ℕ) (h : n ≤ r / 64) where
  -- a number past the words is no member, and what is put in or taken out there changes nothing
  pub has_out : has_in ws r ≡ false
  unfolding has_in
  has_out = let m : length ws ≡ n = p.long in ap (λ (w : ℕ). bit w (r % 64)) (get_or-eq_default ws 0 (omega arith)) ∙ bit_zero (r % 64)

  pub insert_out : ws ≡ words_of (λ k. has_in ws k || eqb k r) 0 n
  insert_out = is_words_of n (λ k. has_in ws k || eqb k r) ws p (λ k l. rw (ne_eqb k r (λ e. omega arith), or-false))

  pub remove_out : ws ≡ words_of (λ k. has_in ws k && not (eqb k r)) 0 n
  remove_out = is_words_of n (λ k. has_in ws k && not (eqb k r)) ws p (λ k l. rw (ne_eqb k r (λ e. omega arith), and-true))

-- words that are each the and of two sets' words are the meet
pub meet_is : (n : ℕ) (ws vs us : List ℕ) → Words n ws → length us ≡ n → ((i : ℕ) → i < n → get_or us i 0 ≡ bit_and (get_or ws i 0) (get_or vs i 0)) → us ≡ words_of (λ k. has_in ws k && has_in vs k) 0 n
unfolding has_in
meet_is n ws vs us p m e =
    is_words_of n (λ k. has_in ws k && has_in vs k) us (record { long = m; each = λ i h. rw (e i h) (lt_of_le_of_lt (and_le_l _ _) (p.each i h)) })
    (λ k l. ap (λ (w : ℕ). bit w (k % 64)) (e (k / 64) (omega arith)) ∙ bit_of_and (get_or ws (k / 64) 0) (get_or vs (k / 64) 0) (k % 64))

-- and words that are each the or, the join
pub join_is : (n : ℕ) (ws vs us : List ℕ) → Words n ws → Words n vs → length us ≡ n → ((i : ℕ) → i < n → get_or us i 0 ≡ bit_or (get_or ws i 0) (get_or vs i 0)) → us ≡ words_of (λ k. has_in ws k || has_in vs k) 0 n
unfolding has_in
join_is n ws vs us p q m e =
    is_words_of n (λ k. has_in ws k || has_in vs k) us (record { long = m; each = λ i h. rw (e i h) (or_lt 64 _ _ (p.each i h) (q.each i h)) })
    (λ k l. ap (λ (w : ℕ). bit w (k % 64)) (e (k / 64) (omega arith)) ∙ bit_of_or (get_or ws (k / 64) 0) (get_or vs (k / 64) 0) (k % 64))

-- no member below word i, and none of the t low digits of word i is set
pub below_word : (ws : List ℕ) (i t : ℕ) → ((k : ℕ) → k < i * 64 → has_in ws k ≡ false) → t ≤ count_trailing_zeros 64 (get_or ws i 0) → t ≤ 64 → (k : ℕ) → k < i * 64 + t → has_in ws k ≡ false
below_word ws i t h p q k l =
    by_lt k (i * 64) (h k)
    (λ a. ap (has_in ws) (omega arith) ∙ at_word ws i (k - i * 64) (omega arith) ∙ trailing_below 64 (get_or ws i 0) (k - i * 64) (omega arith))

pub at_lowest : (ws : List ℕ) (i : ℕ) → count_trailing_zeros 64 (get_or ws i 0) < 64 → has_in ws (i * 64 + count_trailing_zeros 64 (get_or ws i 0)) ≡ true
at_lowest ws i h = at_word ws i _ h ∙ trailing_set 64 (get_or ws i 0) h
