-- For `lowest_unreached` of `src/blocks.rt` and its steps, and for the theorem `steps_are_enough`: the blocks that an entry reaches, as a set and by steps.
-- Assumes nothing.
use mathlib.Core.Path.{◌≡◌, refl, sym, ap, ◌∙◌}
use mathlib.Core.Bool.{Bool, true, false, ◌&&◌, ◌||◌, or-false, or-true, and-false, or_assoc}
use mathlib.Core.List.{List, [], ◌∷◌}
use mathlib.Core.Logic.{◌⊎◌, inl, inr, ⊎_elim, ◌↔◌}
use Prim.Native.Nat.{ℕ, zero, suc, ◌+◌, ◌≤◌, ◌<◌}
use native.Mathlib.Nat.{zero-add}
use native.Mathlib.Numerals.{add-one}
use native.Mathlib.Omega.{arith}
use lib.Dec.{T, eqb, ltb}
use lib.ListN.{length, get_or}
use borrow.Author.Tests.{lt-ltb, le-ltb, eq-eqb, ne_eqb, ltb-true, eqb-true}
use Rattle.laws.specs.Lists.{all, any, keep, is_in, from}
use Rattle.laws.proofs.Cases.{by_bool, by_lt, by_eq, same_test}
use Rattle.laws.proofs.Lists.{keep_in, from_long}
use Rattle.bits.specs.Sets.{has, set_of, set_limit}
use Rattle.bits.specs.declared.sets.NumberSet.{NumberSet}
use Rattle.bits.proofs.Members.{has_set_of, set_of_same}
use Rattle.rules.specs.Sheet.{Sheet, block_count, succs_of}
use Rattle.rules.specs.Accept.{is_entry, blocks_from0, further, reached_in, is_reached, each_block, Reached, entry, next}
use Rattle.std.specs.Prelude.{Some, None}
use Rattle.std.specs.Prelude as Code
use Rattle.entity.specs.declared.numbers.Block.{Block}
use Rattle.rules.proofs.Refusals.{in_limits}
use Rattle.table.specs.Rows.{count_in}
use Rattle.table.specs.Sheet.{sheet_in}
use Rattle.table.specs.Index.{Ready}
use Rattle.table.proofs.Loops.{and_left, and_right, and_both, never, all_at, all_each, any_hit}
use Rattle.table.proofs.Beginnings.{from_at}
use Rattle.table.proofs.Sheets.{blocks_counted}
use Rattle.accept.specs.Blocks.{grown, reach_set, lowest_of}
use Rattle.accept.proofs.Lowest.{lowest_none, lowest_all, lowest_same}

pub or_cases : {C : Type 0} (a b : Bool) → (a || b) ≡ true → (a ≡ true → C) → (b ≡ true → C) → C
or_cases true b e f g = f refl
or_cases false b e f g = g e

pub or_right : (a b : Bool) → b ≡ true → (a || b) ≡ true
or_right a b e = rw e (or-true a)

pub or_left : (a b : Bool) → a ≡ true → (a || b) ≡ true
or_left a b e = rw e

-- one of a list
pub any_at : {A : Type 0} (f : A → Bool) (d : A) (l : List A) → any f l ≡ true → (j : ℕ) × (j < length l) × (f (get_or l j d) ≡ true)
any_at f d [] e = never e
any_at f d (x ∷ l) e =
    by_bool (f x) (λ p. (0, omega arith, p))
    (λ p. let w = any_at f d l (rw p at e) in (suc w.0, omega (arith, w.1), w.2))

pub in_hit : (l : List ℕ) (j : ℕ) → j < length l → is_in (get_or l j 0) l ≡ true
unfolding is_in
in_hit l j h = any_hit (eqb (get_or l j 0)) 0 l j h (eq-eqb (get_or l j 0) (get_or l j 0) refl)

pub in_any : (f : ℕ → Bool) (l : List ℕ) (x : ℕ) → is_in x l ≡ true → f x ≡ true → any f l ≡ true
unfolding is_in
in_any f l x p q =
    let w = any_at (eqb x) 0 l p in
    let z : x ≡ get_or l w.0 0 = eqb-true x (get_or l w.0 0) w.2 in
    any_hit f 0 l w.0 w.1 (rw z at q)

-- ---- the numbers below n

pub from_hit : (f : ℕ → Bool) (n x : ℕ) → x < n → f x ≡ true → any f (from 0 n) ≡ true
from_hit f n x h e =
    let z : get_or (from 0 n) x 0 ≡ x = from_at 0 n x h ∙ omega arith in
    any_hit f 0 (from 0 n) x (rw (from_long 0 n) h) (rw z e)

pub from_some : (f : ℕ → Bool) (n : ℕ) → any f (from 0 n) ≡ true → (x : ℕ) × (x < n) × (f x ≡ true)
from_some f n e =
    let w = any_at f 0 (from 0 n) e in
    let h : w.0 < n = rw (from_long 0 n) at w.1 in
    let z : get_or (from 0 n) w.0 0 ≡ w.0 = from_at 0 n w.0 h ∙ omega arith in
    (w.0, h, rw z at w.2)

-- ---- by steps

module _ (sh : Sheet) where
  abbrev n : ℕ
  n = block_count sh

  abbrev R : ℕ → List ℕ
  R m = reached_in sh m

  -- what is reached is a block
  pub reached_below : (m k : ℕ) → is_in k (R m) ≡ true → k < n
  unfolding reached_in further
  reached_below zero k e = ltb-true k n (and_left (ltb k n) (is_entry sh k) (sym (keep_in (is_entry sh) n k) ∙ e))
  reached_below (suc m) k e =
      ltb-true k n (and_left (ltb k n) (is_in k (R m) || any (λ a. is_in k (succs_of sh a)) (R m)) (sym (keep_in (λ b. is_in b (R m) || any (λ a. is_in b (succs_of sh a)) (R m)) n k) ∙ e))

  pub reached_start : (k : ℕ) → is_in k (R 0) ≡ (ltb k n && is_entry sh k)
  unfolding reached_in
  reached_start k = keep_in (is_entry sh) n k

  pub reached_next : (m k : ℕ) → is_in k (R (suc m)) ≡ (ltb k n && (is_in k (R m) || any (λ a. is_in k (succs_of sh a)) (R m)))
  unfolding reached_in further
  reached_next m k = keep_in (λ b. is_in b (R m) || any (λ a. is_in b (succs_of sh a)) (R m)) n k

  -- reached once, reached later
  pub reached_more : (m k : ℕ) → is_in k (R m) ≡ true → is_in k (R (suc m)) ≡ true
  reached_more m k e = reached_next m k ∙ and_both (ltb k n) _ (lt-ltb k n (reached_below m k e)) (or_left (is_in k (R m)) _ e)

  pub reached_later : (d m k : ℕ) → is_in k (R m) ≡ true → is_in k (R (m + d)) ≡ true
  reached_later zero m k e = let z : m + 0 ≡ m = omega arith in rw z e
  reached_later (suc d) m k e = let z : m + suc d ≡ suc (m + d) = omega arith in rw z (reached_more (m + d) k (reached_later d m k e))

-- ---- as sets

any_last : (f : ℕ → Bool) (a n : ℕ) → any f (from a (suc n)) ≡ (any f (from a n) || f (a + n))
unfolding from
any_last f a zero = let e : a + 0 ≡ a = omega arith in rw e (or-false (f a))
any_last f a (suc n) =
    let e : suc a + n ≡ a + suc n = omega arith in
    rw (any_last f (suc a) n, e) (sym (or_assoc (f a) (any f (from (suc a) n)) (f (a + suc n))))

pub any_more : (f : ℕ → Bool) (b : ℕ) → any f (from 0 (b + 1)) ≡ (any f (from 0 b) || f b)
any_more f b = ap (λ (m : ℕ). any f (from 0 m)) (add-one b) ∙ any_last f 0 b ∙ ap (λ (m : ℕ). any f (from 0 b) || f m) (omega arith)

few : {t : List ℕ} → Ready t → block_count (sheet_in t) ≤ set_limit
few {t} g = omega (arith, (in_limits (sheet_in t) g.limits).few_blocks)

module _ (t : List ℕ) where
  abbrev sh : Sheet
  sh = sheet_in t

  -- the entries up to b
  abbrev pub Entries : ℕ → NumberSet → Type 0
  Entries b s = s ≡ set_of (λ k. ltb k b && is_entry sh k)

  later_bit : (b k : ℕ) → (k ≡ b → ⊥) → ltb k (b + 1) ≡ ltb k b
  later_bit b k d = by_lt k b (λ h. rw (lt-ltb k b h, lt-ltb k (b + 1) (omega arith))) (λ h. rw (le-ltb k b h, le-ltb k (b + 1) (omega arith)))

  pub entries_hit : (b : ℕ) (s s' : NumberSet) → Entries b s → is_entry sh b ≡ true → s' ≡ set_of (λ k. has s k || eqb k b) → Entries (b + 1) s'
  entries_hit b s s' i e q =
      q
      ∙ set_of_same (λ k. has s k || eqb k b) (λ k. ltb k (b + 1) && is_entry sh k)
      (λ k h.
      rw (i, has_set_of (λ k. ltb k b && is_entry sh k) k h)
      (by_eq k b (λ z. rw (z, e, eq-eqb b b refl, lt-ltb b (b + 1) (omega arith)) (or-true (ltb b b && true))) (λ d. rw (ne_eqb k b d, later_bit b k d) (or-false (ltb k b && is_entry sh k)))))

  pub entries_miss : (b : ℕ) (s : NumberSet) → Entries b s → is_entry sh b ≡ false → Entries (b + 1) s
  entries_miss b s i e =
      i
      ∙ set_of_same (λ k. ltb k b && is_entry sh k) (λ k. ltb k (b + 1) && is_entry sh k)
      (λ k h. by_eq k b (λ z. rw (z, e, and-false, and-false)) (λ d. rw (later_bit b k d)))

  pub entries_end : (s : NumberSet) (b c : ℕ) → c ≡ count_in t 6 → b ≤ c → c ≤ b → Entries b s → s ≡ reach_set sh 0
  unfolding reach_set
  entries_end s b c q l u i = let z : b ≡ block_count sh = omega (arith, blocks_counted t q) in rw z at i ∙ set_of_same (λ k. ltb k (block_count sh) && is_entry sh k) (λ k. is_in k (reached_in sh 0)) (λ k h. sym (reached_start sh k))

-- ---- as many steps as there are blocks are enough

module _ {A : Type 0} (f h : A → Bool) (d : A) (le : (x : A) → f x ≡ true → h x ≡ true) where
  abbrev Grown : List A → Type 0
  Grown l = (length (keep f l) < length (keep h l)) ⊎ ((length (keep f l) ≡ length (keep h l)) × ((j : ℕ) → j < length l → h (get_or l j d) ≡ true → f (get_or l j d) ≡ true))

  each_cons : (x : A) (l : List A) → (h x ≡ true → f x ≡ true) → ((j : ℕ) → j < length l → h (get_or l j d) ≡ true → f (get_or l j d) ≡ true)
      → (j : ℕ) → j < length (x ∷ l) → h (get_or (x ∷ l) j d) ≡ true → f (get_or (x ∷ l) j d) ≡ true
  each_cons x l p q zero u e = p e
  each_cons x l p q (suc j) u e = q j (omega arith) e

  -- more pass, or the same
  grows : (l : List A) → Grown l
  unfolding keep
  grows [] = inr (refl, λ j u. absurd (omega arith))
  grows (x ∷ l) =
      by_bool (f x)
      (λ e.
      rw (e, le x e)
      (⊎_elim (λ w. inl (omega arith)) (λ w. inr (ap suc w.0, each_cons x l (λ q. e) w.1)) (grows l)))
      (λ e.
      by_bool (h x)
      (λ q. rw (e, q) (inl (⊎_elim (λ w. omega arith) (λ w. omega (arith, w.0)) (grows l))))
      (λ q. rw (e, q) (⊎_elim (λ w. inl w) (λ w. inr (w.0, each_cons x l (λ z. never (sym q ∙ z)) w.1)) (grows l))))

holds : (b : Bool) → b ≡ true → T b
holds true e = tt
holds false e = never e

held : (b : Bool) → T b → b ≡ true
held true x = refl
held false x = elim x [ ]

keep_all : {A : Type 0} (l : List A) → keep (λ x. true) l ≡ l
unfolding keep
keep_all [] = refl
keep_all (x ∷ l) = ap (λ (y : _). x ∷ y) (keep_all l)

module _ (sh : Sheet) where
  abbrev size : ℕ → ℕ
  size m = length (keep (λ k. is_in k (reached_in sh m)) (blocks_from0 sh))

  Closed : ℕ → Type 0
  Closed m = (k : ℕ) → is_in k (reached_in sh (suc m)) ≡ true → is_in k (reached_in sh m) ≡ true

  block_at : (k : ℕ) → k < block_count sh → get_or (blocks_from0 sh) k 0 ≡ k
  block_at k h = from_at 0 (block_count sh) k h ∙ omega arith

  -- a step that adds none, or one block more
  closed_or : (m : ℕ) → Closed m ⊎ (size m < size (suc m))
  unfolding Closed
  closed_or m =
      ⊎_elim (λ w. inr w)
      (λ w. inl (λ k e.
      let h = reached_below sh (suc m) k e in
      let z = block_at k h in
      rw z at (w.1 k (rw (from_long 0 (block_count sh)) h) (rw z e))))
      (grows (λ k. is_in k (reached_in sh m)) (λ k. is_in k (reached_in sh (suc m))) 0 (reached_more sh m) (blocks_from0 sh))

  closed_next : (m : ℕ) → Closed m → Closed (suc m)
  unfolding Closed
  closed_next m c k e =
      let p = sym (reached_next sh (suc m) k) ∙ e in
      or_cases (is_in k (reached_in sh (suc m))) (any (λ a. is_in k (succs_of sh a)) (reached_in sh (suc m)))
      (and_right (ltb k (block_count sh)) (is_in k (reached_in sh (suc m)) || any (λ a. is_in k (succs_of sh a)) (reached_in sh (suc m))) p)
      (λ z. z)
      (λ z.
      let w = any_at (λ a. is_in k (succs_of sh a)) 0 (reached_in sh (suc m)) z in
      let a = get_or (reached_in sh (suc m)) w.0 0 in
      let q = c a (in_hit (reached_in sh (suc m)) w.0 w.1) in
      reached_next sh m k
      ∙ and_both (ltb k (block_count sh)) (is_in k (reached_in sh m) || any (λ a. is_in k (succs_of sh a)) (reached_in sh m)) (lt-ltb k (block_count sh) (reached_below sh (suc (suc m)) k e))
      (or_right (is_in k (reached_in sh m)) (any (λ a. is_in k (succs_of sh a)) (reached_in sh m)) (in_any (λ a. is_in k (succs_of sh a)) (reached_in sh m) a q w.2)))

  closed_by : (m : ℕ) → Closed m ⊎ (m ≤ size m)
  closed_by zero = inr (omega arith)
  closed_by (suc m) =
      ⊎_elim (λ c. inl (closed_next m c)) (λ l. ⊎_elim (λ c. inl (closed_next m c)) (λ u. inr (omega arith)) (closed_or m)) (closed_by m)

  -- then all are reached
  full : block_count sh ≤ size (block_count sh) → (k : ℕ) → k < block_count sh → is_in k (reached_in sh (block_count sh)) ≡ true
  full l k h =
      ⊎_elim
      (λ w. absurd (omega (arith, l, rw (keep_all (blocks_from0 sh)) at w, from_long 0 (block_count sh))))
      (λ w. rw (block_at k h) at (w.1 k (rw (from_long 0 (block_count sh)) h) refl))
      (grows (λ k. is_in k (reached_in sh (block_count sh))) (λ k. true) 0 (λ x e. refl) (blocks_from0 sh))

  closed_last : Closed (block_count sh)
  unfolding Closed
  closed_last = ⊎_elim (λ c. c) (λ l k e. full l k (reached_below sh (suc (block_count sh)) k e)) (closed_by (block_count sh))

  steps_sound : (m k : ℕ) → is_in k (reached_in sh m) ≡ true → Reached sh k
  steps_sound zero k e = entry (holds (ltb k (block_count sh) && is_entry sh k) (sym (reached_start sh k) ∙ e))
  steps_sound (suc m) k e =
      let p = sym (reached_next sh m k) ∙ e in
      let l = and_left (ltb k (block_count sh)) (is_in k (reached_in sh m) || any (λ a. is_in k (succs_of sh a)) (reached_in sh m)) p in
      or_cases (is_in k (reached_in sh m)) (any (λ a. is_in k (succs_of sh a)) (reached_in sh m))
      (and_right (ltb k (block_count sh)) (is_in k (reached_in sh m) || any (λ a. is_in k (succs_of sh a)) (reached_in sh m)) p)
      (λ z. steps_sound m k z)
      (λ z.
      let w = any_at (λ a. is_in k (succs_of sh a)) 0 (reached_in sh m) z in
      next {a = get_or (reached_in sh m) w.0 0} (steps_sound m (get_or (reached_in sh m) w.0 0) (in_hit (reached_in sh m) w.0 w.1))
      (holds (ltb k (block_count sh) && is_in k (succs_of sh (get_or (reached_in sh m) w.0 0))) (and_both (ltb k (block_count sh)) (is_in k (succs_of sh (get_or (reached_in sh m) w.0 0))) l w.2)))

  steps_complete : {k : ℕ} → Reached sh k → is_in k (reached_in sh (block_count sh)) ≡ true
  unfolding Closed
  steps_complete (entry {b = k} x) = rw zero-add at (reached_later sh (block_count sh) 0 k (reached_start sh k ∙ held (ltb k (block_count sh) && is_entry sh k) x))
  steps_complete (next {a = a} {b = k} r x) =
      let y = held (ltb k (block_count sh) && is_in k (succs_of sh a)) x in
      closed_last k
      (reached_next sh (block_count sh) k
      ∙ and_both (ltb k (block_count sh)) (is_in k (reached_in sh (block_count sh)) || any (λ a. is_in k (succs_of sh a)) (reached_in sh (block_count sh))) (and_left (ltb k (block_count sh)) (is_in k (succs_of sh a)) y)
      (or_right (is_in k (reached_in sh (block_count sh))) (any (λ a. is_in k (succs_of sh a)) (reached_in sh (block_count sh)))
      (in_any (λ a. is_in k (succs_of sh a)) (reached_in sh (block_count sh)) a (steps_complete r) (and_right (ltb k (block_count sh)) (is_in k (succs_of sh a)) y))))

  -- ENOUGH
  pub reached_by_steps : (each_block sh (is_reached sh) ≡ true) ↔ ((b : ℕ) → b < block_count sh → Reached sh b)
  unfolding each_block is_reached
  reached_by_steps = (
    λ e b h.
        steps_sound (block_count sh) b (rw (block_at b h) at (all_at (λ b. is_in b (reached_in sh (block_count sh))) 0 (blocks_from0 sh) e b (rw (from_long 0 (block_count sh)) h))),
    λ f.
        all_each (λ b. is_in b (reached_in sh (block_count sh))) 0 (blocks_from0 sh)
        (λ j u. let h : j < block_count sh = rw (from_long 0 (block_count sh)) at u in rw (block_at j h) (steps_complete (f j h))),
  )

-- ---- the code's sets have what is reached by as many steps, and nothing that is not reached

module _ (sh : Sheet) where
  pub grown_hit : (s all all' : NumberSet) (b : ℕ) (l : List ℕ) → all ≡ grown sh s b → has all b ≡ true → l ≡ succs_of sh b → all' ≡ set_of (λ k. has all k || is_in k l) → all' ≡ grown sh s (b + 1)
  unfolding grown
  grown_hit s all all' b l i e z q = rw (add-one b, ← i, e, ← z) q

  pub grown_miss : (s all : NumberSet) (b : ℕ) → all ≡ grown sh s b → has all b ≡ false → all ≡ grown sh s (b + 1)
  unfolding grown
  grown_miss s all b i e = rw (add-one b, ← i, e)

  pub reach_next : (m : ℕ) (s x : NumberSet) → s ≡ reach_set sh m → x ≡ grown sh s (block_count sh) → x ≡ reach_set sh (m + 1)
  unfolding reach_set
  reach_next m s x i e = rw (add-one m, ← i) e

  module _ (s : NumberSet) where
    grown_more : (b k : ℕ) → k < set_limit → has (grown sh s b) k ≡ true → has (grown sh s (suc b)) k ≡ true
    unfolding grown
    grown_more b k l e =
        by_bool (has (grown sh s b) b)
        (λ p. rw p (has_set_of (λ k. has (grown sh s b) k || is_in k (succs_of sh b)) k l ∙ or_left (has (grown sh s b) k) (is_in k (succs_of sh b)) e))
        (λ p. rw p e)

    grown_keeps : (b k : ℕ) → k < set_limit → has s k ≡ true → has (grown sh s b) k ≡ true
    unfolding grown
    grown_keeps zero k l e = e
    grown_keeps (suc b) k l e = grown_more b k l (grown_keeps b k l e)

    grown_adds : (b a k : ℕ) → a < b → a < set_limit → k < set_limit → has s a ≡ true → is_in k (succs_of sh a) ≡ true → has (grown sh s b) k ≡ true
    unfolding grown
    grown_adds zero a k h m l e q = absurd (omega arith)
    grown_adds (suc b) a k h m l e q =
        by_eq a b
        (λ z.
        let p : has (grown sh s b) b ≡ true = grown_keeps b b (rw z at m) (rw z at e) in
        rw p (has_set_of (λ k. has (grown sh s b) k || is_in k (succs_of sh b)) k l ∙ or_right (has (grown sh s b) k) (is_in k (succs_of sh b)) (rw z at q)))
        (λ d. grown_more b k l (grown_adds b a k (omega arith) m l e q))

  next_reached : (a k : ℕ) → is_reached sh a ≡ true → k < block_count sh → is_in k (succs_of sh a) ≡ true → is_reached sh k ≡ true
  unfolding is_reached Closed
  next_reached a k e h q =
      closed_last sh k
      (reached_next sh (block_count sh) k
      ∙ and_both (ltb k (block_count sh)) (is_in k (reached_in sh (block_count sh)) || any (λ a. is_in k (succs_of sh a)) (reached_in sh (block_count sh))) (lt-ltb k (block_count sh) h)
      (or_right (is_in k (reached_in sh (block_count sh))) (any (λ a. is_in k (succs_of sh a)) (reached_in sh (block_count sh))) (in_any (λ a. is_in k (succs_of sh a)) (reached_in sh (block_count sh)) a e q)))

  module _ (few : block_count sh ≤ set_limit) where
    abbrev OnlyReached : NumberSet → Type 0
    OnlyReached s = (k : ℕ) → k < block_count sh → has s k ≡ true → is_reached sh k ≡ true

    grown_only : (s : NumberSet) → OnlyReached s → (b : ℕ) → b ≤ block_count sh → OnlyReached (grown sh s b)
    unfolding grown
    grown_only s o zero u k h e = o k h e
    grown_only s o (suc b) u k h e =
        by_bool (has (grown sh s b) b)
        (λ p.
        or_cases (has (grown sh s b) k) (is_in k (succs_of sh b)) (sym (has_set_of (λ k. has (grown sh s b) k || is_in k (succs_of sh b)) k (omega arith)) ∙ rw p at e)
        (λ z. grown_only s o b (omega arith) k h z)
        (λ z. next_reached b k (grown_only s o b (omega arith) b (omega arith) p) h z))
        (λ p. grown_only s o b (omega arith) k h (rw p at e))

    reach_only : (m : ℕ) → OnlyReached (reach_set sh m)
    unfolding reach_set is_reached
    reach_only zero k h e = rw zero-add at (reached_later sh (block_count sh) 0 k (sym (has_set_of (λ k. is_in k (reached_in sh 0)) k (omega arith)) ∙ e))
    reach_only (suc m) k h e = grown_only (reach_set sh m) (reach_only m) (block_count sh) (omega arith) k h e

    reach_each : (m k : ℕ) → is_in k (reached_in sh m) ≡ true → has (reach_set sh m) k ≡ true
    unfolding reach_set
    reach_each zero k e = has_set_of (λ k. is_in k (reached_in sh 0)) k (omega (arith, reached_below sh 0 k e)) ∙ e
    reach_each (suc m) k e =
        let h = reached_below sh (suc m) k e in
        or_cases (is_in k (reached_in sh m)) (any (λ a. is_in k (succs_of sh a)) (reached_in sh m))
        (and_right (ltb k (block_count sh)) (is_in k (reached_in sh m) || any (λ a. is_in k (succs_of sh a)) (reached_in sh m)) (sym (reached_next sh m k) ∙ e))
        (λ z. grown_keeps (reach_set sh m) (block_count sh) k (omega arith) (reach_each m k z))
        (λ z.
        let w = any_at (λ a. is_in k (succs_of sh a)) 0 (reached_in sh m) z in
        let a = get_or (reached_in sh m) w.0 0 in
        let p : is_in a (reached_in sh m) ≡ true = in_hit (reached_in sh m) w.0 w.1 in
        let l : a < block_count sh = reached_below sh m a p in
        grown_adds (reach_set sh m) (block_count sh) a k l (omega arith) (omega arith) (reach_each m a p) w.2)

    pub reach_is : (k : ℕ) → k < block_count sh → has (reach_set sh (block_count sh)) k ≡ is_reached sh k
    unfolding is_reached
    reach_is k h = same_test _ _ (reach_only (block_count sh) k h) (reach_each (block_count sh) k)

pub grown_end : (t : List ℕ) (s x : NumberSet) (b c : ℕ) → c ≡ count_in t 6 → b ≤ c → c ≤ b → x ≡ grown (sheet_in t) s b → x ≡ grown (sheet_in t) s (block_count (sheet_in t))
grown_end t s x b c q l u i = let z : b ≡ block_count (sheet_in t) = omega (arith, blocks_counted t q) in rw z at i

module _ {t : List ℕ} (g : Ready t) where
  pub reached_early : (s : NumberSet) (m : ℕ) → s ≡ reach_set (sheet_in t) m → {f : Code.Option Block} → f ≡ lowest_of (sheet_in t) (has s) → f ≡ None → None ≡ lowest_of (sheet_in t) (is_reached (sheet_in t))
  unfolding each_block
  reached_early s m q e z =
      let sh = sheet_in t in
      let all-has : each_block sh (has s) ≡ true = lowest_none sh (has s) (sym e ∙ z) in
      sym
      (lowest_all sh (is_reached sh)
      (all_each (is_reached sh) 0 (blocks_from0 sh)
      (λ j u.
      let h : j < block_count sh = rw (from_long 0 (block_count sh)) at u in
      rw (block_at sh j h) (reach_only sh (few g) m j h (rw (block_at sh j h, q) at (all_at (has s) 0 (blocks_from0 sh) all-has j u))))))

  pub reached_last : (s : NumberSet) (m c : ℕ) → c ≡ count_in t 6 → m ≤ c → c ≤ m → s ≡ reach_set (sheet_in t) m → {f : Code.Option Block} → f ≡ lowest_of (sheet_in t) (has s) → f ≡ lowest_of (sheet_in t) (is_reached (sheet_in t))
  reached_last s m c q l u i e =
      let z : m ≡ block_count (sheet_in t) = omega (arith, blocks_counted t q) in
      e ∙ lowest_same (sheet_in t) (has s) (is_reached (sheet_in t)) (λ k h. rw (i, z) (reach_is (sheet_in t) (few g) k h))
