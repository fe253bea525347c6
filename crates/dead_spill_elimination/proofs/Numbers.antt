-- For Linking.antt: the numbers of the rows of one instruction, by the index. Assumes nothing.
--     at_numbers       where first fields never fall, the rows at x have the numbers from `before x` to `before (x + 1)`
--     flat_pairs, flat_rows, any_rows     what is read off those rows, by their numbers
use mathlib.Core.Path.{◌≡◌, refl, sym, ◌∙◌, ap}
use mathlib.Core.Bool.{Bool, true, false, ◌&&◌, ◌||◌}
use mathlib.Core.List.{List, [], ◌∷◌, map, flat_map, zip, zip_with}
use Prim.Native.Nat.{ℕ, suc, ◌+◌, ◌-◌, ◌≤◌, ◌<◌}
use native.Mathlib.Omega.{arith}
use lib.Dec.{eqb}
use lib.ListN.{length, get_or}
use borrow.Author.Tests.{lt-ltb, le-ltb, eq-eqb, ne_eqb}
use Rattle.laws.specs.Lists.{any, is_in, keep, from}
use Rattle.laws.proofs.Cases.{by_lt, by_eq, by_bool}
use Rattle.laws.proofs.Lists.{is_append}
use Rattle.rules.specs.Rows.{first}
use Rattle.table.specs.Sheet.{rows_at}
use Rattle.table.specs.Index.{before, Part, range_in, NeverFalls}
use Rattle.dead_spill_elimination.specs.Slots.{numbers}

-- those of l that pass q, with their numbers, counted from s
abbrev pub those : {A : Type 0} → (A → Bool) → ℕ → List A → List (ℕ × A)
those {A} q s l = keep (λ (x : ℕ × A). q x.1) (zip (from s (length l)) l)

abbrev pub numbers_of : {A : Type 0} → (A → Bool) → ℕ → List A → List ℕ
numbers_of {A} q s l = map (λ (x : ℕ × A). x.0) (those q s l)

these : {A : Type 0} (q : A → Bool) (s : ℕ) (a : A) (l : List A) → q a ≡ true → those q s (a ∷ l) ≡ (s, a) ∷ those q (suc s) l
unfolding keep zip zip_with from
these q s a l h = rw h

others : {A : Type 0} (q : A → Bool) (s : ℕ) (a : A) (l : List A) → q a ≡ false → those q s (a ∷ l) ≡ those q (suc s) l
unfolding keep zip zip_with from
others q s a l h = rw h

module _ {A : Type 0} (f : List ℕ → A) (key : A → ℕ) (same : (r : List ℕ) → key (f r) ≡ first r) (x : ℕ) where
  abbrev at : A → Bool
  at a = eqb (key a) x

  none_here : (s : ℕ) (rows : List (List ℕ)) → ((j : ℕ) → j < length rows → x < first (get_or rows j [])) → numbers_of at s (map f rows) ≡ []
  unfolding keep zip zip_with from
  none_here s [] h = refl
  none_here s (r ∷ rows) h =
      ap (map (λ (y : ℕ × A). y.0)) (others at s (f r) (map f rows) (ne_eqb (key (f r)) x (λ e. omega (arith, same r, h 0 (omega arith))))) ∙ none_here (suc s) rows (λ j u. h (suc j) (omega arith))

  low : (rows : List (List ℕ)) → ((j : ℕ) → j < length rows → x ≤ first (get_or rows j [])) → before x rows ≡ 0
  unfolding before
  low [] h = refl
  low (r ∷ rows) h = rw (le-ltb (first r) x (h 0 (omega arith)))

  from_here : (rows : List (List ℕ)) (s : ℕ) → NeverFalls rows → numbers_of at s (map f rows) ≡ from (s + before x rows) (before (x + 1) rows - before x rows)
  unfolding keep before zip zip_with from
  from_here [] s up = refl
  from_here (r ∷ rows) s up =
      let up' : NeverFalls rows = λ i j h l. up (suc i) (suc j) (omega arith) (omega arith) in
      let on : (j : ℕ) → j < length rows → first r ≤ first (get_or rows j []) = λ j u. up 0 (suc j) (omega arith) (omega arith) in
      by_lt (first r) x
      (λ h.
      let m : before (x + 1) rows + 1 - (before x rows + 1) ≡ before (x + 1) rows - before x rows = omega arith in
      let n : s + (before x rows + 1) ≡ suc s + before x rows = omega arith in
      ap (map (λ (y : ℕ × A). y.0)) (others at s (f r) (map f rows) (ne_eqb (key (f r)) x (λ e. omega (arith, same r))))
      ∙ from_here rows (suc s) up' ∙ sym (rw (lt-ltb (first r) x h, lt-ltb (first r) (x + 1) (omega arith), m, n)))
      (λ h.
      by_eq (first r) x
      (λ e.
      let z : before x rows ≡ 0 = low rows (λ j u. omega (arith, on j u)) in
      let m : before (x + 1) rows + 1 - 0 ≡ suc (before (x + 1) rows - before x rows) = omega arith in
      let a : s + 0 ≡ s = omega arith in
      let b : suc s + before x rows ≡ suc s = omega arith in
      ap (map (λ (y : ℕ × A). y.0)) (these at s (f r) (map f rows) (eq-eqb (key (f r)) x (same r ∙ e)))
      ∙ ap (λ (l : List ℕ). s ∷ l) (from_here rows (suc s) up' ∙ ap (λ (y : ℕ). from y (before (x + 1) rows - before x rows)) b)
      ∙ sym (rw (le-ltb (first r) x h, lt-ltb (first r) (x + 1) (omega arith), m, a)))
      (λ d.
      ap (map (λ (y : ℕ × A). y.0)) (others at s (f r) (map f rows) (ne_eqb (key (f r)) x (λ e. d (sym (same r) ∙ e))))
      ∙ none_here (suc s) rows (λ j u. omega (arith, on j u)) ∙ sym (rw (le-ltb (first r) x h, le-ltb (first r) (x + 1) (omega arith)))))

  no_one : (rows : List (List ℕ)) (s : ℕ) → ((j : ℕ) → j < length rows → first (get_or rows j []) < x) → numbers_of at s (map f rows) ≡ []
  unfolding keep zip zip_with from
  no_one [] s h = refl
  no_one (r ∷ rows) s h =
      ap (map (λ (y : ℕ × A). y.0)) (others at s (f r) (map f rows) (ne_eqb (key (f r)) x (λ e. omega (arith, same r, h 0 (omega arith))))) ∙ no_one rows (suc s) (λ j u. h (suc j) (omega arith))

  -- by the index
  pub at_numbers : (t : List ℕ) (base k most : ℕ) → Part t base k most → ((j : ℕ) → j < length (rows_at t k) → first (get_or (rows_at t k) j []) < most) → NeverFalls (rows_at t k)
      → (l : List A) → l ≡ map f (rows_at t k) → numbers (range_in t base most x) ≡ numbers_of at 0 l
  unfolding range_in from
  at_numbers t base k most part below up l q =
      by_lt x most
      (λ h.
      let e : base + x + 1 ≡ base + (x + 1) = omega arith in
      let z : 0 + before x (rows_at t k) ≡ before x (rows_at t k) = omega arith in
      rw (lt-ltb x most h, e, part x (omega arith), part (x + 1) (omega arith), q)
      (sym (from_here (rows_at t k) 0 up ∙ ap (λ (y : ℕ). from y (before (x + 1) (rows_at t k) - before x (rows_at t k))) z)))
      (λ h. rw (le-ltb x most h, q) (sym (no_one (rows_at t k) 0 (λ j u. omega (arith, below j u)))))

-- ---- what is read off them

module _ {A B : Type 0} (q : A → Bool) (G : ℕ → List B) (d : A) where
  pub flat_pairs : (F : ℕ × A → List B) (l : List A) (s : ℕ) → ((m : ℕ) → m < length l → F (s + m, get_or l m d) ≡ G (s + m)) → flat_map F (those q s l) ≡ flat_map G (numbers_of q s l)
  unfolding keep zip zip_with from flat_map
  flat_pairs F [] s h = refl
  flat_pairs F (a ∷ l) s h =
      let z : s + 0 ≡ s = omega arith in
      let first-is : F (s, a) ≡ G s = rw z at (h 0 (omega arith)) in
      let rest = flat_pairs F l (suc s) (λ m u. let e : s + suc m ≡ suc s + m = omega arith in rw e at (h (suc m) (omega arith))) in
      by_bool (q a)
      (λ p. ap (flat_map F) (these q s a l p) ∙ rw (first-is, rest) (sym (ap (λ (y : List (ℕ × A)). flat_map G (map (λ (x : ℕ × A). x.0) y)) (these q s a l p))))
      (λ p. ap (flat_map F) (others q s a l p) ∙ rest ∙ sym (ap (λ (y : List (ℕ × A)). flat_map G (map (λ (x : ℕ × A). x.0) y)) (others q s a l p)))

  pub flat_rows : (F : A → List B) (l : List A) (s : ℕ) → ((m : ℕ) → m < length l → F (get_or l m d) ≡ G (s + m)) → flat_map F (keep q l) ≡ flat_map G (numbers_of q s l)
  unfolding keep zip zip_with from flat_map
  flat_rows F [] s h = refl
  flat_rows F (a ∷ l) s h =
      let z : s + 0 ≡ s = omega arith in
      let first-is : F a ≡ G s = rw z at (h 0 (omega arith)) in
      let rest = flat_rows F l (suc s) (λ m u. let e : s + suc m ≡ suc s + m = omega arith in rw e at (h (suc m) (omega arith))) in
      by_bool (q a)
      (λ p. rw p (rw (first-is, rest)))
      (λ p. rw p rest)

-- one of them has k
module _ {A : Type 0} (q : A → Bool) (G : ℕ → List ℕ) (d : A) (k : ℕ) where
  pub any_rows : (f : ℕ → Bool) (l : List A) (s : ℕ) → ((m : ℕ) → m < length l → f (s + m) ≡ (q (get_or l m d) && is_in k (G (s + m)))) → any f (from s (length l)) ≡ is_in k (flat_map G (numbers_of q s l))
  unfolding keep zip zip_with from flat_map is_in
  any_rows f [] s h = refl
  any_rows f (a ∷ l) s h =
      let z : s + 0 ≡ s = omega arith in
      let first-is : f s ≡ (q a && is_in k (G s)) = rw z at (h 0 (omega arith)) in
      let rest = any_rows f l (suc s) (λ m u. let e : s + suc m ≡ suc s + m = omega arith in rw e at (h (suc m) (omega arith))) in
      by_bool (q a)
      (λ p.
      let here : f s ≡ is_in k (G s) = first-is ∙ rw p in
      rw p (ap (λ (b : Bool). b || any f (from (suc s) (length l))) here ∙ ap (λ (b : Bool). is_in k (G s) || b) rest ∙ sym (is_append k (G s) (flat_map G (numbers_of q (suc s) l)))))
      (λ p. let here : f s ≡ false = first-is ∙ rw p in rw (p, here) rest)
