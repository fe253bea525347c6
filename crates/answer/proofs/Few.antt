-- For `most` and `render` of src/rows.rt: how long what is written can be. Assumes nothing.
use mathlib.Core.Path.{◌≡◌, refl, ap}
use mathlib.Core.Bool.{Bool, true, false, cond}
use mathlib.Core.List.{List, [], ◌∷◌, ◌++◌, map, flat_map}
use Prim.Native.Char.{code}
use Prim.Native.Nat.{ℕ, zero, suc, ◌+◌, ◌-◌, ◌*◌, ◌≤◌, ◌<◌}
use native.Mathlib.Nat.{suc-mul}
use native.Mathlib.Omega.{arith}
use lib.Dec.{eqb}
use lib.ListN.{length, get_or, length-append}
use Rattle.laws.specs.Lists.{from}
use Rattle.laws.proofs.Cases.{by_lt}
use Rattle.entity.specs.Limits.{inst_limit}
use Rattle.entity.specs.declared.forms.Place.{Place}
use Rattle.entity.specs.declared.forms.Place.TheVariants.{Reg, Slot}
use Rattle.entity.specs.declared.forms.Edit.{Edit}
use Rattle.entity.specs.declared.forms.Edit.TheVariants.{Move, Remat, Espill, Ereload, Misplaced, Nothing}
use Rattle.rules.specs.Text.{bytes}
use Rattle.rules.specs.Words.{ereload_word, espill_word, move_word, none_word, remat_word}
use Rattle.rules.proofs.Words.{dash_word}
use Rattle.rules.specs.Cells.{digits_of, find, number_limit, reg_mark, slot_mark, word, words}
use Rattle.rules.specs.Rows.{line_of}
use Rattle.rules.specs.Sheet.{field}
use Rattle.rules.specs.Forward.{Walk}
use Rattle.rules.specs.Answer.{place_cell, edit_cells}
use Rattle.rules.proofs.Refusals.{InLimits, in_limits}
use Rattle.table.specs.Layout.{op_index}
use Rattle.table.specs.Rows.{count_in, kind_row}
use Rattle.table.specs.Sheet.{sheet_in}
use Rattle.table.specs.Index.{Ready, range_in}
use Rattle.table.specs.View.{edit_row}
use Rattle.table.specs.Edits.{edit_in, SmallPlace, SmallEdit}
use Rattle.table.specs.Written.{four_in, SmallValue, PlaceCell}
use Rattle.table.proofs.Sheets.{edits_are, long_of, ops_are, part_of, rows_at_lem, rows_long}
use Rattle.table.proofs.Lookups.{ops_below, edits_below}
use Rattle.answer.specs.Text.{word_text, cell_text}
use Rattle.answer.specs.Rows.{fold_line, fold_at, edit_at, count_line, rendered, answer_most, Stands}
use Rattle.answer.proofs.Numbers.{digits_most}
use Rattle.answer.proofs.Cells.{cell_number, cell_word, cell_reg, cell_slot, place_within}

-- one or the other
few : (b : Bool) (x y : List ℕ) (n : ℕ) → length x ≤ n → length y ≤ n → length (cond b x y) ≤ n
few true x y n h k = h
few false x y n h k = k

-- ---- cells

number_few : (c : ℕ) → c < number_limit → length (cell_text c) ≤ 5
number_few c h = rw (cell_number c h) at (digits_most 4 c (omega arith))

word_few : (c : ℕ) → length (word_text c) ≤ 7
unfolding word_text bytes
word_few c =
    few (eqb c move_word) _ _ 7 (omega arith)
    (few (eqb c remat_word) _ _ 7 (omega arith)
    (few (eqb c espill_word) _ _ 7 (omega arith) (few (eqb c ereload_word) _ _ 7 (omega arith) (few (eqb c none_word) _ _ 7 (omega arith) (omega arith)))))

kind_few : (c : ℕ) → number_limit ≤ c → c < reg_mark → length (cell_text c) ≤ 7
kind_few c h l = rw (cell_word c h l) at (word_few c)

dash_few : length (cell_text dash_word) ≡ 1
unfolding cell_text word_text bytes
dash_few = refl

place_few : (c : ℕ) → PlaceCell c → length (cell_text c) ≤ 6
place_few c h =
    by_lt c slot_mark
    (λ l. let e = ap length (cell_reg c h.0 l) in omega (arith, e, digits_most 4 (c - reg_mark) (omega arith)))
    (λ l. let e = ap length (cell_slot c l) in omega (arith, e, digits_most 4 (c - slot_mark) (omega arith)))

-- fields with a comma before each
abbrev total : List (List ℕ) → ℕ
total [] = 0
total (g ∷ gs) = length g + 1 + total gs

-- those of an edit
place : (p : Place) → SmallPlace p → length (cell_text (place_cell p)) ≤ 6
place p h = place_few (place_cell p) (place_within p h)

edit_few : (e : Edit) → SmallEdit e → SmallValue e → total (map cell_text (edit_cells e)) ≤ 28
unfolding edit_cells word words find
edit_few (Move to p v) h u = omega (arith, kind_few move_word (omega arith) (omega arith), place to h.0, place p h.1, number_few v.0 u)
edit_few (Remat to v) h u = omega (arith, kind_few remat_word (omega arith) (omega arith), place to h, dash_few, number_few v.0 u)
edit_few (Espill s r) h u = omega (arith, kind_few espill_word (omega arith) (omega arith), place (Slot s) h.0, place (Reg r) h.1, dash_few)
edit_few (Ereload r s) h u = omega (arith, kind_few ereload_word (omega arith) (omega arith), place (Reg r) h.0, place (Slot s) h.1, dash_few)
edit_few (Misplaced to p) h u = omega (arith, kind_few none_word (omega arith) (omega arith), dash_few)
edit_few Nothing h u = omega (arith, kind_few none_word (omega arith) (omega arith), dash_few)

-- ---- rows

fields_few : (gs : List (List ℕ)) → length (flat_map (λ g. code "," ∷ g) gs) ≡ total gs
unfolding flat_map
fields_few [] = refl
fields_few (g ∷ gs) = omega (arith, length-append (44 ∷ g) (flat_map (λ g. code "," ∷ g) gs), fields_few gs)

line_few : (f : List ℕ) (gs : List (List ℕ)) → length (line_of (f ∷ gs)) ≡ length f + total gs + 2
unfolding line_of bytes
line_few f gs =
    omega (arith, length-append (f ++ flat_map (λ g. code "," ∷ g) gs) (bytes "\r\n"), length-append f (flat_map (λ g. code "," ∷ g) gs), fields_few gs)

-- n rows of k bytes at most
rows_few : (k : ℕ) (f : ℕ → List ℕ) (a n : ℕ) → ((i : ℕ) → a ≤ i → i < a + n → length (f i) ≤ k) → length (flat_map f (from a n)) ≤ n * k
unfolding flat_map from
rows_few k f a zero h = omega arith
rows_few k f a (suc n) h =
    let e : suc n * k ≡ n * k + k = suc-mul n k in
    omega (arith, e, length-append (f a) (flat_map f (from (suc a) n)), h a (omega arith) (omega arith), rows_few k f (suc a) n (λ i u v. h i (omega arith) (omega arith)))

-- 32 bits
abbrev pub Narrow : List ℕ → Type 0
Narrow l = (i : ℕ) → get_or l i 0 < 4294967296

count_few : (counts : List ℕ) → Narrow counts → (i : ℕ) → length (digits_of (get_or counts i 0)) ≤ 10
count_few counts p i = digits_most 9 (get_or counts i 0) (omega (arith, p i))

counts_few : (counts : List ℕ) → Narrow counts → length (count_line counts) ≤ 106
unfolding count_line bytes from
counts_few counts p =
    let d = count_few counts p in
    omega (arith, line_few (bytes "count") (map (λ k. digits_of (get_or counts k 0)) (from 0 9)), d 0, d 1, d 2, d 3, d 4, d 5, d 6, d 7, d 8)

-- an edit row's instruction
pub at_is : (t : List ℕ) (n : ℕ) → (edit_row (sheet_in t) n).at ≡ field 1 (kind_row t 12 n)
at_is t n = part_of (edits_are t) (λ e. e.at) n (record { at = 0; edit = Nothing }) refl

pub at_below : {t : List ℕ} → Ready t → (n : ℕ) → n < count_in t 12 → field 1 (kind_row t 12 n) < inst_limit
at_below {t} g n h = rw (rows_at_lem t 12 n) at (edits_below g n (rw (rows_long t 12) h))

module _ {t edits places counts : List ℕ} {w : Walk} (x : Stands t edits places counts w) where
  g : Ready t
  g = x.ready

  limits : InLimits (sheet_in t)
  limits = in_limits (sheet_in t) g.limits

  many_ops : length (sheet_in t).ops ≡ count_in t 10
  many_ops = long_of (ops_are t)

  many_edits : length (sheet_in t).edits ≡ count_in t 12
  many_edits = long_of (edits_are t)

  fold_few : (n : ℕ) → n < count_in t 10 → length (fold_at t places n) ≤ 22
  unfolding fold_at fold_line bytes
  fold_few n h =
      let row : List ℕ = kind_row t 10 n in
      let i : ℕ = field 1 row in
      let c : ℕ = get_or places n 0 in
      let o : ℕ = n - (range_in t op_index inst_limit i).from in
      let u : i < inst_limit = rw (rows_at_lem t 10 n) at (ops_below g n (rw (rows_long t 10) h)) in
      few (eqb c (field 5 row)) [] (line_of (bytes "fold" ∷ digits_of i ∷ digits_of o ∷ cell_text c ∷ [])) 22 (omega arith)
      (omega (
        arith,
        line_few (bytes "fold") (digits_of i ∷ digits_of o ∷ cell_text c ∷ []),
        digits_most 2 i (omega arith),
        digits_most 3 o (omega (arith, many_ops, limits.few_ops)),
        place_few c (x.in_cells.place_cells n (omega (arith, many_ops))),
      ))

  row_few : (n : ℕ) → n < count_in t 12 → length (edit_at t edits n) ≤ 38
  unfolding edit_at bytes
  row_few n h =
      let i : ℕ = (edit_row (sheet_in t) n).at in
      let u : i < inst_limit = rw (at_is t n) (at_below g n h) in
      let e = x.in_cells.cells_of_edits n (omega (arith, many_edits)) in
      let f : total (map cell_text (four_in edits n)) ≤ 28 = rw e.kept (edit_few (edit_in edits n) e.small e.value) in
      let d = ap length (cell_number i (omega arith)) in
      omega (arith, line_few (bytes "edit") (map cell_text (i ∷ four_in edits n)), d, digits_most 2 i (omega arith), f)

  -- ALL OF IT
  pub answer_few : Narrow counts → length (rendered t edits places counts) ≤ answer_most t
  unfolding rendered answer_most
  answer_few c =
      let a : List ℕ = flat_map (fold_at t places) (from 0 (count_in t 10)) in
      let b : List ℕ = flat_map (edit_at t edits) (from 0 (count_in t 12)) in
      omega (
        arith,
        length-append (a ++ b) (count_line counts),
        length-append a b,
        rows_few 22 (fold_at t places) 0 (count_in t 10) (λ i u v. fold_few i (omega arith)),
        rows_few 38 (edit_at t edits) 0 (count_in t 12) (λ i u v. row_few i (omega arith)),
        counts_few counts c,
      )

  pub most_few : answer_most t ≤ 18446744073709551615
  unfolding answer_most
  most_few = omega (arith, many_ops, many_edits, limits.few_ops, limits.few_edits)
