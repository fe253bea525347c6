-- For `Holds` of specs/Table.antt, the representation: row i of the sheet is the part of the cells from its start to the next one. Assumes nothing.
use mathlib.Core.Path.{◌≡◌, refl, sym, ◌∙◌, ap, subst}
use mathlib.Core.List.{List, [], ◌∷◌, ◌++◌, append_assoc}
use Prim.Native.Nat.{ℕ, zero, suc, ◌+◌, ◌-◌, ◌<◌, ◌≤◌}
use native.Mathlib.Nat.{add-zero}
use native.Mathlib.Numerals.{add-one}
use native.Mathlib.Omega.{arith}
use lib.ListN.{length, get_or, take, drop, length-append, take-append-drop, drop_of_length-le}
use lib.Seq.{drop_at, take-append_seam, drop-cons, length-take-le}
use Rattle.table.specs.Layout.{cells_at, cell_limit}
use Rattle.table.specs.Table.{flatten, offsets, Holds, rows_from, rows_in}
use Rattle.table.specs.Rows.{start_in, row_in}

first_offset : (a : ℕ) (rs : List (List ℕ)) → get_or (offsets a rs) 0 0 ≡ a
unfolding offsets
first_offset a [] = refl
first_offset a (r ∷ rs) = refl

-- a row ends as far on as it is long
offset_next : (rs : List (List ℕ)) (a i : ℕ) → i < length rs → get_or (offsets a rs) (suc i) 0 ≡ get_or (offsets a rs) i 0 + length (get_or rs i [])
unfolding offsets
offset_next [] a i h = absurd (omega arith)
offset_next (r ∷ rs) a zero h = first_offset (a + length r) rs
offset_next (r ∷ rs) a (suc i) h = offset_next rs (a + length r) i (omega arith)

row_at : (rs : List (List ℕ)) (pre tl : List ℕ) (a i : ℕ) → length pre ≡ a → i < length rs
    → take (length (get_or rs i [])) (drop (get_or (offsets a rs) i 0) (pre ++ (flatten rs ++ tl))) ≡ get_or rs i []
unfolding offsets flatten
row_at [] pre tl a i e h = absurd (omega arith)
row_at (r ∷ rs) pre tl a zero e h = rw (drop_at pre _ a e, append_assoc, take-append_seam)
row_at (r ∷ rs) pre tl a (suc i) e h =
    subst (λ (l : List ℕ). take (length (get_or rs i [])) (drop (get_or (offsets (a + length r) rs) i 0) l) ≡ get_or rs i [])
    (rw (append_assoc, append_assoc)) (row_at rs (pre ++ r) tl (a + length r) i (rw (length-append, e)) (omega arith))

pub last_offset : (a : ℕ) (rs : List (List ℕ)) → get_or (offsets a rs) (length rs) 0 ≡ a + length (flatten rs)
unfolding offsets flatten
last_offset a [] = omega arith
last_offset a (r ∷ rs) = last_offset (a + length r) rs ∙ omega (arith, length-append r (flatten rs))

module _ {rs : List (List ℕ)} {t : List ℕ} (h : Holds rs t) where
  cells_split : take cells_at t ++ (flatten rs ++ drop (length (flatten rs)) (drop cells_at t)) ≡ t
  cells_split =
      ap (λ (l : List ℕ). take cells_at t ++ (l ++ drop (length (flatten rs)) (drop cells_at t))) (sym h.cells_begin)
      ∙ ap (λ (l : List ℕ). take cells_at t ++ l) (take-append-drop (length (flatten rs)) (drop cells_at t)) ∙ take-append-drop cells_at t

  pub width_is : (i : ℕ) → i < length rs → start_in t (i + 1) ≡ start_in t i + length (get_or rs i [])
  width_is i l =
      h.starts_begin (i + 1) (omega arith) ∙ ap (λ (j : ℕ). get_or (offsets cells_at rs) j 0) (add-one i) ∙ offset_next rs cells_at i l
      ∙ ap (λ (x : ℕ). x + length (get_or rs i [])) (sym (h.starts_begin i (omega arith)))

  -- rows start one after the other, within the cells
  pub start_later : (i d : ℕ) → i + d ≤ length rs → start_in t i ≤ start_in t (i + d)
  start_later i zero l = rw (add-zero i) (omega arith)
  start_later i (suc d) l =
      let e : i + suc d ≡ i + d + 1 = omega arith in
      rw e (omega (arith, start_later i d (omega arith), width_is (i + d) (omega arith)))

  pub start_within : (i : ℕ) → i ≤ length rs → start_in t i ≤ cells_at + cell_limit
  start_within i l =
      let e : i + (length rs - i) ≡ length rs = omega arith in
      let a : start_in t i ≤ start_in t (length rs) = rw e at (start_later i (length rs - i) (omega arith)) in
      omega (arith, a, h.starts_begin (length rs) (omega arith), last_offset cells_at rs, h.few_cells)

  -- THE REPRESENTATION
  pub row_is : (i : ℕ) → i < length rs → row_in t i ≡ get_or rs i []
  row_is i l =
      let w : start_in t (i + 1) - start_in t i ≡ length (get_or rs i []) = omega (arith, width_is i l) in
      ap (λ (n : ℕ). take n (drop (start_in t i) t)) w
      ∙ ap (λ (a : ℕ). take (length (get_or rs i [])) (drop a t)) (h.starts_begin i (omega arith))
      ∙ ap (λ (l : List ℕ). take (length (get_or rs i [])) (drop (get_or (offsets cells_at rs) i 0) l)) (sym cells_split)
      ∙ row_at rs (take cells_at t) (drop (length (flatten rs)) (drop cells_at t)) cells_at i (length-take-le cells_at t (omega (arith, h.apart))) l

  rows_are : (m i : ℕ) → i + m ≡ length rs → rows_from t i m ≡ drop i rs
  unfolding rows_from
  rows_are zero i e = sym (drop_of_length-le rs {i = i} (omega arith))
  rows_are (suc m) i e =
      rw (row_is i (omega arith), rows_are m (i + 1) (omega arith), add-one) (sym (drop-cons rs i [] (omega arith)))

  -- the table read back is the sheet
  pub sheet_is : (n : ℕ) → length rs ≡ n → rows_in t n ≡ rs
  unfolding rows_in
  sheet_is n e = rows_are n 0 (omega arith)
