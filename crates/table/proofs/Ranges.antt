-- For `range_in` and `before` of specs/Index.antt and the reads of src/index.rt: what is read off the index, and the rows that it tells of. Assumes nothing.
use mathlib.Core.Path.{◌≡◌, refl, sym, ap, ◌∙◌}
use mathlib.Core.Bool.{Bool, cond}
use mathlib.Core.List.{List, [], ◌∷◌, flat_map, append-nil}
use Prim.Native.Nat.{ℕ, zero, suc, ◌+◌, ◌-◌, ◌≤◌, ◌<◌}
use native.Mathlib.Numerals.{add-one}
use native.Mathlib.Omega.{arith}
use lib.Dec.{eqb, ltb}
use lib.ListN.{length, get_or, take, drop}
use borrow.Author.Tests.{lt-ltb, le-ltb, eq-eqb, ne_eqb}
use Rattle.laws.specs.Lists.{keep, from}
use Rattle.laws.proofs.Cases.{by_lt, by_eq}
use Rattle.laws.proofs.Lists.{keep_none}
use Rattle.rules.specs.Rows.{first}
use Rattle.rules.specs.Sheet.{Sheet, BlockRow, insts_from, total_of}
use Rattle.table.specs.Rows.{count_in, kind_row}
use Rattle.table.specs.Sheet.{rows_at}
use Rattle.table.specs.Index.{range_in, before, Part, NeverFalls, Rises}
use Rattle.table.specs.declared.index.Range.{Range}
use Rattle.table.proofs.Sheets.{rows_at_lem, rows_long}

-- ---- rows by their first fields

pub before_low : (x : ℕ) (rows : List (List ℕ)) → ((j : ℕ) → j < length rows → x ≤ first (get_or rows j [])) → before x rows ≡ 0
unfolding before
before_low x [] h = refl
before_low x (r ∷ rows) h = rw (le-ltb (first r) x (h 0 (omega arith)))

pub before_all : (x : ℕ) (rows : List (List ℕ)) → ((j : ℕ) → j < length rows → first (get_or rows j []) < x) → before x rows ≡ length rows
unfolding before
before_all x [] h = refl
before_all x (r ∷ rows) h = rw (lt-ltb (first r) x (h 0 (omega arith))) (omega (arith, before_all x rows (λ j u. h (suc j) (omega arith))))

pub before_within : (x : ℕ) (rows : List (List ℕ)) → before x rows ≤ length rows
unfolding before
before_within x [] = omega arith
before_within x (r ∷ rows) = by_lt (first r) x (λ h. rw (lt-ltb (first r) x h) (omega (arith, before_within x rows))) (λ h. rw (le-ltb (first r) x h) (omega arith))

abbrev pub at_x : ℕ → List ℕ → Bool
at_x x r = eqb (first r) x

none_at : (x : ℕ) (rows : List (List ℕ)) → ((j : ℕ) → j < length rows → x < first (get_or rows j [])) → keep (at_x x) rows ≡ []
none_at x rows h = keep_none (at_x x) [] rows (λ j u. ne_eqb (first (get_or rows j [])) x (λ e. omega (arith, h j u)))

falls_rest : (r : List ℕ) (rows : List (List ℕ)) → NeverFalls (r ∷ rows) → NeverFalls rows
falls_rest r rows up i j h l = up (suc i) (suc j) (omega arith) (omega arith)

rises_rest : (r : List ℕ) (rows : List (List ℕ)) → Rises (r ∷ rows) → Rises rows
rises_rest r rows up i j h l = up (suc i) (suc j) (omega arith) (omega arith)

-- THE ROWS OF ONE: where first fields never fall, those at x stand together, after those that come before x
pub at_one : (x : ℕ) (rows : List (List ℕ)) → NeverFalls rows → keep (at_x x) rows ≡ take (before (x + 1) rows - before x rows) (drop (before x rows) rows)
unfolding keep before
at_one x [] up = refl
at_one x (r ∷ rows) up =
    let up' : NeverFalls rows = falls_rest r rows up in
    let on : (j : ℕ) → j < length rows → first r ≤ first (get_or rows j []) = λ j u. up 0 (suc j) (omega arith) (omega arith) in
    by_lt (first r) x
    (λ h.
    let m : before (x + 1) rows + 1 - (before x rows + 1) ≡ before (x + 1) rows - before x rows = omega arith in
    rw (ne_eqb (first r) x (λ e. omega arith), lt-ltb (first r) x h, lt-ltb (first r) (x + 1) (omega arith), m, add-one (before x rows)) (at_one x rows up'))
    (λ h.
    by_eq (first r) x
    (λ e.
    let z : before x rows ≡ 0 = before_low x rows (λ j u. omega (arith, on j u)) in
    let m : before (x + 1) rows + 1 - 0 ≡ suc (before (x + 1) rows - before x rows) = omega arith in
    rw (eq-eqb (first r) x e, le-ltb (first r) x h, lt-ltb (first r) (x + 1) (omega arith), m)
    (ap (λ (l : List (List ℕ)). r ∷ l) (at_one x rows up' ∙ ap (λ (n : ℕ). take (before (x + 1) rows - before x rows) (drop n rows)) z)))
    (λ d.
    rw (ne_eqb (first r) x d, le-ltb (first r) x h, le-ltb (first r) (x + 1) (omega arith))
    (none_at x rows (λ j u. omega (arith, on j u)))))

-- where they rise there is one at most
pub at_most_one : {A : Type 0} (f : List ℕ → List A) (x : ℕ) (rows : List (List ℕ)) → Rises rows
    → flat_map f (keep (at_x x) rows) ≡ cond (ltb (before x rows) (before (x + 1) rows)) (f (get_or rows (before x rows) [])) []
unfolding keep before flat_map
at_most_one f x [] up = refl
at_most_one f x (r ∷ rows) up =
    let up' : Rises rows = rises_rest r rows up in
    let on : (j : ℕ) → j < length rows → first r < first (get_or rows j []) = λ j u. up 0 (suc j) (omega arith) (omega arith) in
    by_lt (first r) x
    (λ h.
    rw (ne_eqb (first r) x (λ e. omega arith), lt-ltb (first r) x h, lt-ltb (first r) (x + 1) (omega arith), at_most_one f x rows up')
    (by_lt (before x rows) (before (x + 1) rows)
    (λ l. rw (lt-ltb (before x rows) (before (x + 1) rows) l, lt-ltb (before x rows + 1) (before (x + 1) rows + 1) (omega arith), add-one (before x rows)))
    (λ l. rw (le-ltb (before x rows) (before (x + 1) rows) l, le-ltb (before x rows + 1) (before (x + 1) rows + 1) (omega arith)))))
    (λ h.
    by_eq (first r) x
    (λ e.
    rw (eq-eqb (first r) x e, le-ltb (first r) x h, lt-ltb (first r) (x + 1) (omega arith), lt-ltb 0 (before (x + 1) rows + 1) (omega arith), none_at x rows (λ j u. omega (arith, on j u)))
    (append-nil (f r)))
    (λ d.
    rw (ne_eqb (first r) x d, le-ltb (first r) x h, le-ltb (first r) (x + 1) (omega arith), none_at x rows (λ j u. omega (arith, on j u)))))

-- ---- by the index

module _ (t : List ℕ) (at k most : ℕ) (part : Part t at k most) (below : (j : ℕ) → j < length (rows_at t k) → first (get_or (rows_at t k) j []) < most) (x : ℕ) where
  abbrev range : Range
  range = range_in t at most x

  range_in_lem : x < most → range ≡ record { from = before x (rows_at t k); to = before (x + 1) (rows_at t k) }
  unfolding range_in
  range_in_lem h =
      let e : at + x + 1 ≡ at + (x + 1) = omega arith in
      rw (lt-ltb x most h, e, part x (omega arith), part (x + 1) (omega arith))

  range_out : most ≤ x → range ≡ record { from = 0; to = 0 }
  unfolding range_in
  range_out h = rw (le-ltb x most h)

  -- where there is a row, it is one of the kind's
  pub range_within : range.from < range.to → range.from < count_in t k
  range_within u =
      by_lt x most
      (λ h.
      let a : before x (rows_at t k) < before (x + 1) (rows_at t k) = rw (range_in_lem h) at u in
      rw (range_in_lem h) (omega (arith, before_within (x + 1) (rows_at t k), rows_long t k)))
      (λ h. let z : 0 < 0 = rw (range_out h) at u in absurd (omega arith))

  -- the rows of a block or an instruction
  pub rows_of : NeverFalls (rows_at t k) → take (range.to - range.from) (drop range.from (rows_at t k)) ≡ keep (at_x x) (rows_at t k)
  rows_of up =
      by_lt x most
      (λ h. ap (λ (r : Range). take (r.to - r.from) (drop r.from (rows_at t k))) (range_in_lem h) ∙ sym (at_one x (rows_at t k) up))
      (λ h.
      ap (λ (r : Range). take (r.to - r.from) (drop r.from (rows_at t k))) (range_out h)
      ∙ sym (keep_none (at_x x) [] (rows_at t k) (λ j u. ne_eqb (first (get_or (rows_at t k) j [])) x (λ e. omega (arith, below j u)))))

  -- the list of the one row of a block or an instruction
  pub list_of : {A : Type 0} (f : List ℕ → List A) → Rises (rows_at t k) → cond (ltb range.from range.to) (f (kind_row t k range.from)) [] ≡ flat_map f (keep (at_x x) (rows_at t k))
  unfolding flat_map
  list_of f up =
      by_lt x most
      (λ h.
      ap (λ (r : Range). cond (ltb r.from r.to) (f (kind_row t k r.from)) []) (range_in_lem h)
      ∙ ap (λ (r : List ℕ). cond (ltb (before x (rows_at t k)) (before (x + 1) (rows_at t k))) (f r) []) (sym (rows_at_lem t k (before x (rows_at t k))))
      ∙ sym (at_most_one f x (rows_at t k) up))
      (λ h.
      ap (λ (r : Range). cond (ltb r.from r.to) (f (kind_row t k r.from)) []) (range_out h)
      ∙ sym (ap (flat_map f) (keep_none (at_x x) [] (rows_at t k) (λ j u. ne_eqb (first (get_or (rows_at t k) j [])) x (λ e. omega (arith, below j u))))))

-- ---- the instructions of a block

pub insts_at : (sh : Sheet) (bs : List BlockRow) (a b : ℕ) → get_or (insts_from sh a bs) b [] ≡ from (a + total_of (take b bs)) (total_of (take (suc b) bs) - total_of (take b bs))
unfolding insts_from total_of from
insts_at sh [] a zero = refl
insts_at sh [] a (suc b) = refl
insts_at sh (x ∷ bs) a zero =
    let e : a + 0 ≡ a = omega arith in
    let m : x.instructions + 0 - 0 ≡ x.instructions = omega arith in rw (e, m)
insts_at sh (x ∷ bs) a (suc b) =
    let e : a + (x.instructions + total_of (take b bs)) ≡ a + x.instructions + total_of (take b bs) = omega arith in
    let m : x.instructions + total_of (take (suc b) bs) - (x.instructions + total_of (take b bs)) ≡ total_of (take (suc b) bs) - total_of (take b bs) = omega arith in
    rw (e, m) (insts_at sh bs (a + x.instructions) b)
