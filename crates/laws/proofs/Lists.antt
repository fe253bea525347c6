-- Laws of specs/Lists.antt, specs/Fold.antt and specs/Spans.antt: members and numbers of a list, and loops that read it or store into it, one place a turn.
-- Assumes nothing.
use mathlib.Core.Path.{◌≡◌, refl, sym, ap, ap₂, ◌∙◌}
use mathlib.Core.Bool.{Bool, false, cond, ◌&&◌, ◌||◌, and-false}
use mathlib.Core.List.{List, [], ◌∷◌, ◌++◌, map, flat_map, zip, zip_with}
use Prim.Native.Nat.{ℕ, zero, suc, ◌+◌, ◌≤◌, ◌<◌}
use native.Mathlib.Nat.{zero-add, add-zero}
use native.Mathlib.Omega.{arith}
use native.Mathlib.Numerals.{add-one}
use lib.Dec.{eqb, leb, ltb}
use lib.ListN.{length, get_or, set, take, drop, replicate, length-set, drop_of_length-le}
use lib.Seq.{drop-cons, get_or-set_same, get_or-set_other}
use borrow.Author.Tests.{eq-eqb, ne_eqb, le-leb, lt-leb, lt-ltb, le-ltb}
use Rattle.laws.specs.Fold.{run}
use Rattle.laws.specs.Lists.{keep, is_in, from}
use Rattle.laws.specs.Spans.{Span}
use Rattle.laws.proofs.Cases.{by_bool, by_lt, by_eq}

-- within the list the default does not matter
pub get_d_any : {A : Type 0} (l : List A) (j : ℕ) (a b : A) → j < length l → get_or l j a ≡ get_or l j b
get_d_any [] j a b h = absurd (omega arith)
get_d_any (x ∷ l) zero a b h = refl
get_d_any (x ∷ l) (suc j) a b h = get_d_any l j a b (omega arith)

pub zeros : (n k : ℕ) → ◌≡◌ {A = ℕ} (get_or (replicate n 0) k 0) 0
zeros zero k = refl
zeros (suc n) zero = refl
zeros (suc n) (suc k) = zeros n k

pub from_long : (a n : ℕ) → length (from a n) ≡ n
unfolding from
from_long a zero = refl
from_long a (suc n) = ap suc (from_long (suc a) n)

-- what stands from i on: one element more, and none
pub drop_step : (s : List ℕ) (i : ℕ) → i < length s → drop i s ≡ get_or s i 0 ∷ drop (i + 1) s
drop_step s i h = drop-cons s i 0 h ∙ ap (λ (n : ℕ). get_or s i 0 ∷ drop n s) (sym (add-one i))

pub drop_end : (s : List ℕ) (i : ℕ) → length s ≤ i → drop i s ≡ []
drop_end s i h = drop_of_length-le s h

-- ---- a list mapped

pub part_map : {A B : Type 0} (f : A → B) (m n : ℕ) (l : List A) → take m (drop n (map f l)) ≡ map f (take m (drop n l))
part_map f zero n l = refl
part_map f (suc m) zero [] = refl
part_map f (suc m) zero (x ∷ l) = ap (λ (y : _). f x ∷ y) (part_map f m zero l)
part_map f (suc m) (suc n) [] = refl
part_map f (suc m) (suc n) (x ∷ l) = part_map f (suc m) n l

pub flat_map_lem : {A B C : Type 0} (f : B → List C) (g : A → B) (l : List A) → flat_map f (map g l) ≡ flat_map (λ x. f (g x)) l
unfolding flat_map
flat_map_lem f g [] = refl
flat_map_lem f g (x ∷ l) = rw (flat_map_lem f g l)

-- with its numbers: g pairs each number with what stands there
pub zipped : {A : Type 0} (g : ℕ → ℕ × A) (d : A) (a : ℕ) (l : List A) → ((j : ℕ) → j < length l → g (a + j) ≡ (a + j, get_or l j d)) → zip (from a (length l)) l ≡ map g (from a (length l))
unfolding from zip zip_with
zipped g d a [] h = refl
zipped g d a (x ∷ l) h =
    let z : a + 0 ≡ a = add-zero a in
    ap₂ (λ (y : _) (r : _). y ∷ r) (sym (rw z at (h 0 (omega arith))))
    (zipped g d (suc a) l (λ j u. let s : suc a + j ≡ a + suc j = omega arith in rw s (h (suc j) (omega arith))))

-- ---- those of which a test is true

pub keep_none : {A : Type 0} (f : A → Bool) (d : A) (l : List A) → ((j : ℕ) → j < length l → f (get_or l j d) ≡ false) → keep f l ≡ []
unfolding keep
keep_none f d [] h = refl
keep_none f d (x ∷ l) h = rw (h 0 (omega arith)) (keep_none f d l (λ j u. h (suc j) (omega arith)))

-- ---- the numbers of which k is one

module _ (k : ℕ) where
  pub is_append : (xs ys : List ℕ) → is_in k (xs ++ ys) ≡ (is_in k xs || is_in k ys)
  unfolding is_in
  is_append [] ys = refl
  is_append (x ∷ xs) ys = by_bool (eqb k x) (λ e. rw e) (λ e. rw e (is_append xs ys))

  pub is_keep : (f : ℕ → Bool) (l : List ℕ) → is_in k (keep f l) ≡ (is_in k l && f k)
  unfolding is_in keep
  is_keep f [] = refl
  is_keep f (x ∷ l) = go (is_keep f l)
    where
      go : is_in k (keep f l) ≡ (is_in k l && f k) → is_in k (cond (f x) (x ∷ keep f l) (keep f l)) ≡ ((eqb k x || is_in k l) && f k)
      go ih =
          by_eq k x
          (λ q. rw (eq-eqb k x q, q) (by_bool (f x) (λ p. rw (p, eq-eqb x x refl)) (λ p. rw (p, ← q, ih, q, p) (by_bool (is_in x l) (λ u. rw u) (λ u. rw u)))))
          (λ q. rw (ne_eqb k x q) (by_bool (f x) (λ p. rw (p, ne_eqb k x q) ih) (λ p. rw p ih)))

  pub is_from : (a n : ℕ) → is_in k (from a n) ≡ (leb a k && ltb k (a + n))
  unfolding is_in from
  is_from a zero = by_lt k a (λ h. rw (lt-leb a k h)) (λ h. rw (le-ltb k (a + 0) (omega arith)) (sym (and-false (leb a k))))
  is_from a (suc n) =
      by_eq k a
      (λ q. rw (eq-eqb k a q, le-leb a k (omega arith), lt-ltb k (a + suc n) (omega arith)))
      (λ d.
      let m : suc a + n ≡ a + suc n = omega arith in
      rw (ne_eqb k a d)
      (is_from (suc a) n ∙ rw m (by_lt k a (λ h. rw (lt-leb a k h, lt-leb (suc a) k (omega arith))) (λ h. rw (le-leb a k h, le-leb (suc a) k (omega arith))))))

-- the numbers below n that pass a test
pub keep_in : (f : ℕ → Bool) (n k : ℕ) → is_in k (keep f (from 0 n)) ≡ (ltb k n && f k)
keep_in f n k = is_keep k f (from 0 n) ∙ ap (λ (b : Bool). b && f k) (is_from k 0 n) ∙ rw (le-leb 0 k (omega arith), zero-add n)

-- ---- loops that store

-- l' is l with g j x stored for x at each index j below i; d is the default that the code's reads have, 0 or false
pub record MapTo {A : Type 0} (d : A) (g : ℕ → A → A) (l : List A) (i : ℕ) (l' : List A) : Type 0 where
  pub long : length l' ≡ length l
  pub done : (j : ℕ) → j < i → get_or l' j d ≡ g j (get_or l j d)
  pub rest : (j : ℕ) → i ≤ j → get_or l' j d ≡ get_or l j d

module _ {A : Type 0} (d : A) (g : ℕ → A → A) (l : List A) where
  pub map_none : MapTo d g l 0 l
  map_none = record { long = refl; done = λ j h. absurd (omega arith); rest = λ j h. refl }

  module _ (i : ℕ) (l' : List A) (p : MapTo d g l i l') where
    -- the turn stores
    pub map_store : (v : A) → v ≡ g i (get_or l' i d) → i < length l → MapTo d g l (i + 1) (set l' i v)
    map_store v e h =
        let m : length l' ≡ length l = p.long in
        record {
          long = length-set l' i v ∙ m;
          done = λ j u.
              by_eq j i (λ q. rw (q, get_or-set_same l' i v d (omega arith), e) (ap (g i) (p.rest i (omega arith))))
              (λ n. get_or-set_other l' i j v d n ∙ p.done j (omega arith));
          rest = λ j u. get_or-set_other l' i j v d (λ q. omega arith) ∙ p.rest j (omega arith);
        }

-- a part of it, place after place
module _ (at : ℕ) (f : ℕ → ℕ) (l : List ℕ) where
  pub span_none : Span at f l 0 l
  span_none = record { long = refl; done = λ j h. absurd (omega arith); before = λ k h. refl; behind = λ k h. refl }

  pub span_store : (i : ℕ) (l' : List ℕ) (v : ℕ) → Span at f l i l' → v ≡ f i → at + i < length l → Span at f l (i + 1) (set l' (at + i) v)
  span_store i l' v p e h =
      let m : length l' ≡ length l = p.long in
      record {
        long = length-set l' (at + i) v ∙ m;
        done = λ j u.
            by_eq j i (λ q. rw (q, get_or-set_same l' (at + i) v 0 (omega arith)) e)
            (λ n. get_or-set_other l' (at + i) (at + j) v 0 (λ q. n (omega arith)) ∙ p.done j (omega arith));
        before = λ k u. get_or-set_other l' (at + i) k v 0 (λ q. omega arith) ∙ p.before k u;
        behind = λ k u. get_or-set_other l' (at + i) k v 0 (λ q. omega arith) ∙ p.behind k (omega arith);
      }

-- ---- a loop that reads a list from the front: the state, run through the elements

-- what each step keeps
pub run_keeps : {S A : Type 0} (P : S → Type 0) (f : S → A → S) → ((s : S) (x : A) → P s → P (f s x)) → (l : List A) (s : S) → P s → P (run f s l)
unfolding run
run_keeps P f k [] s p = p
run_keeps P f k (x ∷ l) s p = run_keeps P f k l (f s x) (k s x p)

-- the last step, over numbers
pub run_more : {S : Type 0} (f : S → ℕ → S) (s : S) (a n : ℕ) → run f s (from a (suc n)) ≡ f (run f s (from a n)) (a + n)
unfolding run from
run_more f s a zero = ap (f s) (omega arith)
run_more f s a (suc n) = run_more f (f s a) (suc a) n ∙ ap (f (run f (f s a) (from (suc a) n))) (omega arith)

module _ {S A : Type 0} (f : S → A → S) (d : A) (s : S) (l : List A) (i : ℕ) where
  -- one turn
  pub run_step : i < length l → run f s (drop i l) ≡ run f (f s (get_or l i d)) (drop (i + 1) l)
  unfolding run
  run_step h = rw (drop-cons l i d, add-one)

  pub run_end : length l ≤ i → run f s (drop i l) ≡ s
  unfolding run
  run_end h = rw (drop_of_length-le l h)

-- the invariant `run f s (drop i l) ≡ t`, what remains gives the same answer: kept by a turn, and at the end the answer
module _ {S A : Type 0} (f : S → A → S) (d : A) {s : S} (l : List A) (i : ℕ) {t : S} where
  pub run_again : {s' : S} → s' ≡ f s (get_or l i d) → i < length l → run f s (drop i l) ≡ t → run f s' (drop (i + 1) l) ≡ t
  run_again e h inv = ap (λ (x : S). run f x (drop (i + 1) l)) e ∙ sym (run_step f d s l i h) ∙ inv

  pub run_done : length l ≤ i → run f s (drop i l) ≡ t → s ≡ t
  run_done h inv = sym (run_end f d s l i h) ∙ inv
