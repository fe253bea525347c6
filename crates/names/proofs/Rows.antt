-- For the tests of the rows of a kind in `src/limits.rt` and `src/names.rt`: what `all` and `any` over the numbers of the rows answer, by what is read
-- off the rows. Assumes nothing.
use mathlib.Core.Path.{◌≡◌, refl, sym, ap, ◌∙◌}
use mathlib.Core.Bool.{Bool, true, false, not}
use mathlib.Core.List.{List, map-id}
use Prim.Native.Nat.{ℕ, zero, suc, ◌+◌, ◌-◌, ◌≤◌, ◌<◌}
use native.Mathlib.Nat.{sub-eq-zero_of_le}
use native.Mathlib.Numerals.{add-one}
use native.Mathlib.Omega.{arith}
use lib.ListN.{length, get_or, drop, drop_of_length-le}
use lib.Seq.{drop-cons}
use denote.Param.Members.{Mut}
use Rattle.std.specs.declared.ops.Range.{Range}
use Rattle.std.specs.declared.option.Option.{Option}
use Rattle.std.specs.Fn.{Called}
use Rattle.std.specs.Iterator.{YieldsThen}
use Rattle.std.specs.List.{range_with_len, FoldsTo}
use Rattle.std.specs.Option.{MatchOption}
use Rattle.std.proofs.iter.Yields.{nat_range_steps}
use Rattle.std.proofs.lemmas.Iterator.{YieldsList-from_range}
use Rattle.std.proofs.lemmas.Iterator.Search.{all_from_yields_List, any_from_yields_List}
use Rattle.laws.specs.Lists.{all, any, from}
use Rattle.laws.proofs.Cases.{by_lt}
use Rattle.table.specs.Rows.{count_in, kind_row}
use Rattle.table.specs.Sheet.{rows_at}
use Rattle.table.proofs.Sheets.{ReadOff, long_of}
use Rattle.table.proofs.Loops.{all_map, all_numbers}

-- the numbers of a range, as the lists of laws have them
range_is : (a n : ℕ) → range_with_len a n ≡ from a n
unfolding from
range_is a zero = refl
range_is a (suc n) = rw (add-one, range_is (suc a) n)

-- what `(start..end).all(..)` says of its turns; and so `any`, where `go` is false
abbrev Turns : {F : Type 0} → Mut F (ℕ × Unit {0}) Bool → F → Range ℕ → Range ℕ → Bool → Bool → Type 0
Turns {F} g h s u go r =
    (xs : List ℕ) × (o : Option ℕ) × (j : F) × YieldsThen nat_range_steps s xs o u × FoldsTo (λ p x q. Called g p (x, tt) go q) h xs j
    × MatchOption o (r ≡ go) (λ x. (r ≡ not go) × ((q : F) × Called g j (x, tt) (not go) q))

-- a test of those from the i-th on, by their numbers
module _ {A : Type 0} (p : A → Bool) (d : A) (l : List A) where
  any_behind : (n i : ℕ) → n + i ≡ length l → any (λ j. p (get_or l j d)) (from i n) ≡ any p (drop i l)
  unfolding from
  any_behind zero i h = rw (drop_of_length-le l {i = i} (omega arith))
  any_behind (suc n) i h = rw (drop-cons l i d (omega arith), any_behind n (suc i) (omega arith))

  -- where j stands for i, or past the end as i does
  any_from : (i j : ℕ) → (i < length l → j ≡ i) → (length l ≤ i → length l ≤ j) → any (λ k. p (get_or l k d)) (from j (length l - j)) ≡ any p (drop i l)
  unfolding from
  any_from i j same past =
      by_lt i (length l) (λ h. rw (same h) (any_behind (length l - i) i (omega arith)))
      (λ h. rw (drop_of_length-le l h, sub-eq-zero_of_le (past h)))

module _ {A : Type 0} {t : List ℕ} {k : ℕ} {f : List ℕ → A} {l : List A} (x : ReadOff t k f l) {n : ℕ} (e : n ≡ count_in t k) where
  module _ {F : Type 0} {g : Mut F (ℕ × Unit {0}) Bool} {h : F} {u : Range ℕ} {r : Bool} where
    pub all_turns : Turns g h (record { start = 0; end = n }) u true r → (test : ℕ → Bool) → ((i : ℕ) (b : Bool) (q : F) → Called g h (i, tt) b q → (q ≡ h) × (b ≡ test i)) → r ≡ all test (from 0 (length l))
    all_turns turns test each =
        all_from_yields_List test u h r turns (YieldsList-from_range 0 n (length l) refl (omega (arith, long_of x))) each ∙ ap (all test) (range_is 0 (length l))

    module _ (turns : Turns g h (record { start = 0; end = n }) u true r) (p : A → Bool) where
      -- the test goes by what the list has of row i
      pub all_rows : (d : A) → ((i : ℕ) (b : Bool) (q : F) → Called g h (i, tt) b q → (q ≡ h) × (b ≡ p (get_or l i d))) → r ≡ all p l
      all_rows d each = all_turns turns (λ i. p (get_or l i d)) each ∙ sym (all_numbers p d l)

      -- the test goes by row i as it stands in the table
      pub all_kind : ((i : ℕ) (b : Bool) (q : F) → Called g h (i, tt) b q → (q ≡ h) × (b ≡ p (f (kind_row t k i)))) → r ≡ all p l
      unfolding rows_at
      all_kind each =
          all_turns turns (λ i. p (f (kind_row t k i))) each
          ∙ sym (ap (all p) x.is ∙ all_map f p (rows_at t k) ∙ all_map (kind_row t k) (λ r. p (f r)) (from 0 (count_in t k)) ∙ ap (λ m. all (λ i. p (f (kind_row t k i))) (from 0 m)) (sym (long_of x)))

    -- of the rows from the i-th on
    pub any_rows : {j : ℕ} → Turns g h (record { start = j; end = n }) u false r → (i : ℕ) → (i < n → j ≡ i) → (n ≤ i → n ≤ j) → (p : A → Bool) (d : A)
        → ((k : ℕ) (b : Bool) (q : F) → Called g h (k, tt) b q → (q ≡ h) × (b ≡ p (get_or l k d))) → r ≡ any p (drop i l)
    any_rows {j} turns i same past p d each =
        any_from_yields_List (λ k. p (get_or l k d)) u h r turns (YieldsList-from_range j n (length l - j) refl (omega (arith, long_of x))) each
        ∙ ap (any (λ k. p (get_or l k d))) (range_is j (length l - j)) ∙ any_from p d l i j (λ z. same (omega (arith, long_of x))) (λ z. omega (arith, long_of x))

-- a test of all that is read off a kind's rows, by the rows
pub by_rows : {A : Type 0} {t : List ℕ} {k : ℕ} {f : List ℕ → A} {l : List A} → ReadOff t k f l → (p : A → Bool) → all p l ≡ all (λ r. p (f r)) (rows_at t k)
by_rows {t = t} {k = k} {f = f} x p = ap (all p) x.is ∙ all_map f p (rows_at t k)

pub rows_self : (t : List ℕ) (k : ℕ) → ReadOff t k (λ r. r) (rows_at t k)
rows_self t k = record { is = sym (map-id (rows_at t k)) }
