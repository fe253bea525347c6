-- For src/touched.rt: the two words of an instruction have the slots that its operands define and those that they read. Assumes nothing.
use mathlib.Core.Path.{◌≡◌, refl, sym, ◌∙◌, ap}
use mathlib.Core.Logic.{inl}
use mathlib.Core.Bool.{Bool, true, false, ◌&&◌, ◌||◌}
use mathlib.Core.List.{List, []}
use Prim.Native.Nat.{ℕ, zero, suc, ◌+◌, ◌*◌, ◌%◌, ◌<◌}
use native.Mathlib.Numerals.{add-one}
use native.Mathlib.Omega.{arith}
use lib.Bits.{bit_or}
use lib.Dec.{eqb}
use lib.ListN.{length, get_or, set, replicate, length-set, length-replicate}
use lib.Seq.{get_or-set_same, get_or-set_other}
use borrow.Author.Tests.{eq-eqb, ne_eqb, eqb-true}
use Rattle.laws.specs.Digits.{bit}
use Rattle.laws.specs.Fold.{run}
use Rattle.laws.specs.Lists.{any, is_in, from}
use Rattle.laws.proofs.Bit.{bit_zero, bit_of_or, bit_with}
use Rattle.laws.proofs.Cases.{by_bool, by_eq, eqb_same}
use Rattle.laws.proofs.Lists.{zeros, run_more}
use Rattle.entity.specs.Limits.{inst_limit}
use Rattle.entity.specs.declared.forms.Place.{Place}
use Rattle.entity.specs.declared.forms.Place.TheVariants.{Reg, Slot}
use Rattle.rules.specs.Words.{def_word, early_word, use_word}
use Rattle.rules.specs.Sheet.{place_of}
use Rattle.rules.specs.Function.{slot_of}
use Rattle.table.specs.Rows.{kind_row}
use Rattle.dead_spill_elimination.specs.Slots.{Low, defs_at, uses_at}
use Rattle.dead_spill_elimination.specs.Touched.{place_word, added, touch_by, touched_to}
use Rattle.dead_spill_elimination.proofs.Members.{is_one, defs_is, uses_is}

none_or : (a : Bool) → (a || false) ≡ a
none_or true = refl
none_or false = refl

any_more : (f : ℕ → Bool) (a n : ℕ) → any f (from a (suc n)) ≡ (any f (from a n) || f (a + n))
unfolding from
any_more f a zero = let z : a + 0 ≡ a = omega arith in rw z (none_or (f a))
any_more f a (suc n) = let z : suc a + n ≡ a + suc n = omega arith in rw (any_more f (suc a) n, z) (turn (f a) (any f (from (suc a) n)) (f (a + suc n)))
  where
    turn : (a b c : Bool) → (a || (b || c)) ≡ ((a || b) || c)
    turn true b c = refl
    turn false b c = refl

-- ---- one operand

place_bit : (x k : ℕ) (p : Place) → Low (slot_of p) → bit (bit_or x (place_word p)) k ≡ (bit x k || is_in k (slot_of p))
unfolding slot_of is_in
place_bit x k (Reg r) l = bit_of_or x 0 k ∙ rw (bit_zero k)
place_bit x k (Slot s) l =
    let e : s.0 % 64 ≡ s.0 = omega (arith, l s.0 (inl refl)) in
    rw e (bit_with 64 x s.0 k (l s.0 (inl refl)) ∙ ap (λ (b : Bool). bit x k || b) (sym (is_one k s.0)))

added_at : (l : List ℕ) (at : ℕ) (p : Place) (j k : ℕ) → at < length l → Low (slot_of p) → bit (get_or (added l at p) j 0) k ≡ (bit (get_or l j 0) k || (eqb at j && is_in k (slot_of p)))
unfolding added
added_at l at p j k h low =
    by_eq at j
    (λ e. rw (eq-eqb at j e) (ap (λ (x : ℕ). bit x k) (ap (λ (i : ℕ). get_or (set l at (bit_or (get_or l at 0) (place_word p))) i 0) (sym e) ∙ get_or-set_same l at _ 0 h) ∙ place_bit (get_or l at 0) k p low ∙ rw e))
    (λ n. rw (ne_eqb at j n, get_or-set_other l at j (bit_or (get_or l at 0) (place_word p)) 0 (λ q. n (sym q))) (sym (none_or (bit (get_or l j 0) k))))

-- ---- what the code does

module _ (t places l : List ℕ) where
  pub touched_first : l ≡ touched_to t places l 0
  unfolding run from
  touched_first = refl

  pub touched_more : (m : List ℕ) (n : ℕ) {m' : List ℕ} → m ≡ touched_to t places l n → m' ≡ touch_by t places m n → m' ≡ touched_to t places l (n + 1)
  touched_more m n q e =
      let z : 0 + n ≡ n = omega arith in
      e ∙ ap (λ (x : List ℕ). touch_by t places x n) q ∙ sym (ap (touched_to t places l) (add-one n) ∙ run_more (touch_by t places) l 0 n ∙ ap (touch_by t places (touched_to t places l n)) z)

-- ---- what the words have

module _ (t places : List ℕ) where
  abbrev at : ℕ → ℕ
  at n = get_or (kind_row t 10 n) 1 0

  touch_length : (l : List ℕ) (n : ℕ) → length (touch_by t places l n) ≡ length l
  unfolding touch_by added
  touch_length l n =
      by_bool (eqb (get_or (kind_row t 10 n) 2 0) use_word) (λ e. rw e (length-set l _ _))
      (λ e. rw e (by_bool (eqb (get_or (kind_row t 10 n) 2 0) def_word || eqb (get_or (kind_row t 10 n) 2 0) early_word) (λ f. rw f (length-set l _ _)) (λ f. rw f)))

  module _ (l : List ℕ) (n : ℕ) (long : length l ≡ 1024) (near : at n < inst_limit) (low_def : Low (defs_at t n)) (low_use : Low (uses_at t places n)) where
    abbrev kind : ℕ
    kind = get_or (kind_row t 10 n) 2 0

    abbrev defining : Bool
    defining = eqb kind def_word || eqb kind early_word

    no_def : eqb kind use_word ≡ true → defining ≡ false
    no_def e = let q : kind ≡ use_word = eqb-true kind use_word e in rw q

    cell_step : (j k : ℕ) → bit (get_or (touch_by t places l n) j 0) k ≡ (bit (get_or l j 0) k || ((eqb (at n * 2 + 1) j && is_in k (uses_at t places n)) || (eqb (at n * 2) j && is_in k (defs_at t n))))
    unfolding touch_by is_in
    cell_step j k =
        by_bool (eqb kind use_word)
        (λ e.
        let u : uses_at t places n ≡ slot_of (place_of (get_or places n 0)) = uses_is t places n ∙ rw e in
        let d : defs_at t n ≡ [] = defs_is t places n ∙ rw (no_def e) in
        rw (u, d, e) (added_at l (at n * 2 + 1) (place_of (get_or places n 0)) j k (omega (arith, long, near)) (rw u at low_use) ∙ sym (right (bit (get_or l j 0) k) _ (eqb (at n * 2) j))))
        (λ e.
        let u : uses_at t places n ≡ [] = uses_is t places n ∙ rw e in
        by_bool defining
        (λ f.
        let d : defs_at t n ≡ slot_of (place_of (get_or (kind_row t 10 n) 5 0)) = defs_is t places n ∙ rw f in
        rw (u, d, e, f) (added_at l (at n * 2) (place_of (get_or (kind_row t 10 n) 5 0)) j k (omega (arith, long, near)) (rw d at low_def) ∙ sym (left (bit (get_or l j 0) k) (eqb (at n * 2 + 1) j) _)))
        (λ f.
        let d : defs_at t n ≡ [] = defs_is t places n ∙ rw f in
        rw (u, d, e, f) (sym (neither (bit (get_or l j 0) k) (eqb (at n * 2 + 1) j) (eqb (at n * 2) j)))))
      where
        right : (a b c : Bool) → (a || (b || (c && false))) ≡ (a || b)
        right true b c = refl
        right false true c = refl
        right false false true = refl
        right false false false = refl

        left : (a b c : Bool) → (a || ((b && false) || c)) ≡ (a || c)
        left true b c = refl
        left false true c = refl
        left false false c = refl

        neither : (a b c : Bool) → (a || ((b && false) || (c && false))) ≡ a
        neither true b c = refl
        neither false true true = refl
        neither false true false = refl
        neither false false true = refl
        neither false false false = refl

    module _ (i k : ℕ) where
      defs_step : bit (get_or (touch_by t places l n) (i * 2) 0) k ≡ (bit (get_or l (i * 2) 0) k || (eqb (at n) i && is_in k (defs_at t n)))
      defs_step =
          let e : eqb (at n * 2) (i * 2) ≡ eqb (at n) i = eqb_same (at n * 2) (i * 2) (at n) i (λ e. omega arith) (λ e. omega arith) in
          cell_step (i * 2) k ∙ rw (ne_eqb (at n * 2 + 1) (i * 2) (λ q. omega arith), e)

      uses_step : bit (get_or (touch_by t places l n) (i * 2 + 1) 0) k ≡ (bit (get_or l (i * 2 + 1) 0) k || (eqb (at n) i && is_in k (uses_at t places n)))
      uses_step =
          let e : eqb (at n * 2 + 1) (i * 2 + 1) ≡ eqb (at n) i = eqb_same (at n * 2 + 1) (i * 2 + 1) (at n) i (λ e. omega arith) (λ e. omega arith) in
          cell_step (i * 2 + 1) k ∙ rw (ne_eqb (at n * 2) (i * 2 + 1) (λ q. omega arith), e) (ap (λ (b : Bool). bit (get_or l (i * 2 + 1) 0) k || b) (none_or (eqb (at n) i && is_in k (uses_at t places n))))

  -- ---- the first m operands

  -- operand row n stands at an instruction, and its slots are below the limit
  pub record Fine (n : ℕ) : Type 0 where
    pub near : at n < inst_limit
    pub low_def : Low (defs_at t n)
    pub low_use : Low (uses_at t places n)

  abbrev first : ℕ → List ℕ
  first m = touched_to t places (replicate 1024 0) m

  more : (m : ℕ) → first (suc m) ≡ touch_by t places (first m) m
  more m = let z : 0 + m ≡ m = omega arith in run_more (touch_by t places) (replicate 1024 0) 0 m ∙ ap (touch_by t places (first m)) z

  first_length : (m : ℕ) → length (first m) ≡ 1024
  unfolding run from
  first_length zero = length-replicate {A = ℕ} 1024 0
  first_length (suc m) = ap length (more m) ∙ touch_length (first m) m ∙ first_length m

  -- the words of instruction i
  module _ (i k : ℕ) where
    abbrev has_def : ℕ → Bool
    has_def n = eqb (at n) i && is_in k (defs_at t n)

    abbrev has_use : ℕ → Bool
    has_use n = eqb (at n) i && is_in k (uses_at t places n)

    pub defs_told : (m : ℕ) → ((n : ℕ) → n < m → Fine n) → bit (get_or (first m) (i * 2) 0) k ≡ any has_def (from 0 m)
    unfolding run from
    defs_told zero f = rw (zeros 1024 (i * 2)) (bit_zero k)
    defs_told (suc m) f =
        let z : 0 + m ≡ m = omega arith in
        let g = f m (omega arith) in
        ap (λ (l : List ℕ). bit (get_or l (i * 2) 0) k) (more m) ∙ defs_step (first m) m (first_length m) g.near g.low_def g.low_use i k
        ∙ ap (λ (b : Bool). b || has_def m) (defs_told m (λ n u. f n (omega arith))) ∙ sym (any_more has_def 0 m ∙ ap (λ (j : ℕ). any has_def (from 0 m) || has_def j) z)

    pub uses_told : (m : ℕ) → ((n : ℕ) → n < m → Fine n) → bit (get_or (first m) (i * 2 + 1) 0) k ≡ any has_use (from 0 m)
    unfolding run from
    uses_told zero f = rw (zeros 1024 (i * 2 + 1)) (bit_zero k)
    uses_told (suc m) f =
        let z : 0 + m ≡ m = omega arith in
        let g = f m (omega arith) in
        ap (λ (l : List ℕ). bit (get_or l (i * 2 + 1) 0) k) (more m) ∙ uses_step (first m) m (first_length m) g.near g.low_def g.low_use i k
        ∙ ap (λ (b : Bool). b || has_use m) (uses_told m (λ n u. f n (omega arith))) ∙ sym (any_more has_use 0 m ∙ ap (λ (j : ℕ). any has_use (from 0 m) || has_use j) z)
