-- For src/edits.rt and specs/Edits.antt, edits and places in cells: an edit that is stored is read back, and the others stay. Assumes nothing.
--     edit_none       no edit, by the words that the kind is not
--     read-back       the edit of the cells of an edit is the edit
--     edits_length, edits_at_lem, edits_with      the first n edits of cells
--     places_length, places_at                the first n places
--     cells_same, cells_other, cells_with     cells that are an edit row's stay so when an edit is stored
--     sheet_edit_is   row n of the sheet's edits
use mathlib.Core.Path.{◌≡◌, refl, sym, ◌∙◌}
use mathlib.Core.Bool.{true}
use mathlib.Core.List.{List, [], ◌∷◌}
use Prim.Native.Nat.{ℕ, ◌+◌, ◌-◌, ◌*◌, ◌<◌, ◌≤◌}
use native.Mathlib.Omega.{arith}
use lib.ListN.{length, get_or, set, length-set}
use lib.Seq.{get_or-set_same, get_or-set_other, ext_get_or}
use borrow.Author.Tests.{lt-ltb, le-ltb, ne_eqb}
use Rattle.laws.proofs.Cases.{by_eq}
use Rattle.entity.specs.declared.forms.Place.{Place}
use Rattle.entity.specs.declared.forms.Place.TheVariants.{Reg, Slot}
use Rattle.entity.specs.declared.forms.Edit.{Edit}
use Rattle.entity.specs.declared.forms.Edit.TheVariants.{Move, Remat, Espill, Ereload, Misplaced, Nothing}
use Rattle.rules.specs.Words.{ereload_word, espill_word, move_word, remat_word}
use Rattle.rules.specs.Cells.{word, find, words, reg_mark, slot_mark}
use Rattle.rules.specs.Sheet.{EditRow, place_of, espill_of, ereload_of, edit_of}
use Rattle.rules.specs.Accept.{placed}
use Rattle.rules.specs.Answer.{place_cell, edit_cells}
use Rattle.table.specs.Layout.{edit_width}
use Rattle.table.specs.Edits.{edit_in, edits_in, with_edit, place_in, places_in, edit_at_row, SmallPlace, SmallEdit}
use Rattle.table.specs.Sheet.{sheet_in}
use Rattle.table.specs.Written.{four_in, SmallValue, EditCells}
use Rattle.table.proofs.Sheets.{members_long, members_at, edits_are, part_of}

-- ---- no edit

pub edit_none : (k t p v : ℕ) → (k ≡ move_word → ⊥) → (k ≡ remat_word → ⊥) → (k ≡ espill_word → ⊥) → (k ≡ ereload_word → ⊥) → Nothing ≡ edit_of k t p v
unfolding edit_of word find words
edit_none k t p v a b c d = rw (ne_eqb k move_word a, ne_eqb k remat_word b, ne_eqb k espill_word c, ne_eqb k ereload_word d)

-- ---- read back

place_back : (p : Place) → SmallPlace p → place_of (place_cell p) ≡ p
unfolding place_of place_cell
place_back (Reg r) h =
    let e : reg_mark + r.0 - reg_mark ≡ r.0 = omega arith in
    let l : reg_mark + r.0 < slot_mark = omega arith in
    rw (lt-ltb (reg_mark + r.0) slot_mark l, e)
place_back (Slot s) h =
    let e : slot_mark + s.0 - slot_mark ≡ s.0 = omega arith in
    let l : slot_mark ≤ slot_mark + s.0 = omega arith in
    rw (le-ltb (slot_mark + s.0) slot_mark l, e)

-- the edit of the cells of e
abbrev pub back : Edit → Edit
back e = let cs = edit_cells e in edit_of (get_or cs 0 0) (get_or cs 1 0) (get_or cs 2 0) (get_or cs 3 0)

pub read_back : (e : Edit) → placed e ≡ true → SmallEdit e → back e ≡ e
unfolding edit_cells edit_of espill_of ereload_of word find words placed
read_back (Move to p v) g h = rw (place_back to h.0, place_back p h.1)
read_back (Remat to v) g h = rw (place_back to h)
read_back (Espill s r) g h = rw (place_back (Slot s) h.0, place_back (Reg r) h.1, espill_of)
read_back (Ereload r s) g h = rw (place_back (Reg r) h.0, place_back (Slot s) h.1, ereload_of)
read_back (Misplaced to p) g h = let z : ◌≡◌ {A = ℕ} 0 1 = cc in absurd (omega arith)
read_back Nothing g h = refl

-- ---- four cells stored in turn

module _ (cells : List ℕ) (a w x y z : ℕ) where
  abbrev s1 : List ℕ
  s1 = set cells a w

  abbrev s2 : List ℕ
  s2 = set s1 (a + 1) x

  abbrev s3 : List ℕ
  s3 = set s2 (a + 2) y

  abbrev s4 : List ℕ
  s4 = set s3 (a + 3) z

  none_of : (i : ℕ) → ((k : ℕ) → k < 4 → i ≡ a + k → ⊥) → get_or s4 i 0 ≡ get_or cells i 0
  none_of i n =
      get_or-set_other s3 (a + 3) i z 0 (n 3 (omega arith)) ∙ get_or-set_other s2 (a + 2) i y 0 (n 2 (omega arith))
      ∙ get_or-set_other s1 (a + 1) i x 0 (n 1 (omega arith)) ∙ get_or-set_other cells a i w 0 (λ q. n 0 (omega arith) (omega arith))

  four : a + 3 < length cells → (get_or s4 a 0 ≡ w) × (get_or s4 (a + 1) 0 ≡ x) × (get_or s4 (a + 2) 0 ≡ y) × (get_or s4 (a + 3) 0 ≡ z)
  four h =
      let l1 : length s1 ≡ length cells = length-set cells a w in
      let l2 : length s2 ≡ length cells = length-set s1 (a + 1) x ∙ l1 in
      let l3 : length s3 ≡ length cells = length-set s2 (a + 2) y ∙ l2 in (
        get_or-set_other s3 (a + 3) a z 0 (λ q. omega arith) ∙ get_or-set_other s2 (a + 2) a y 0 (λ q. omega arith) ∙ get_or-set_other s1 (a + 1) a x 0 (λ q. omega arith)
            ∙ get_or-set_same cells a w 0 (omega arith),
        get_or-set_other s3 (a + 3) (a + 1) z 0 (λ q. omega arith) ∙ get_or-set_other s2 (a + 2) (a + 1) y 0 (λ q. omega arith) ∙ get_or-set_same s1 (a + 1) x 0 (omega arith),
        get_or-set_other s3 (a + 3) (a + 2) z 0 (λ q. omega arith) ∙ get_or-set_same s2 (a + 2) y 0 (omega arith),
        get_or-set_same s3 (a + 3) z 0 (omega arith),
      )

-- ---- the first n edits

long : (cells : List ℕ) (n : ℕ) → length (edits_in cells n) ≡ n
unfolding edits_in
long cells n = members_long (edit_in cells) n

at : (cells : List ℕ) (n j : ℕ) → j < n → get_or (edits_in cells n) j Nothing ≡ edit_in cells j
unfolding edits_in
at cells n j h = members_at (edit_in cells) n j Nothing h

module _ (cells : List ℕ) where
  pub edits_length : (n : ℕ) → length (edits_in cells n) ≡ n
  unfolding edits_in
  edits_length n = members_long (edit_in cells) n

  pub edits_at_lem : (n j : ℕ) (d : Edit) → j < n → get_or (edits_in cells n) j d ≡ edit_in cells j
  unfolding edits_in
  edits_at_lem n j d h = members_at (edit_in cells) n j d h

  pub places_length : (n : ℕ) → length (places_in cells n) ≡ n
  unfolding places_in
  places_length n = members_long (place_in cells) n

  pub places_at : (n j : ℕ) (d : Place) → j < n → get_or (places_in cells n) j d ≡ place_in cells j
  unfolding places_in
  places_at n j d h = members_at (place_in cells) n j d h

  module _ (j : ℕ) (e : Edit) where
    pub with_length : length (with_edit cells j e) ≡ length cells
    unfolding with_edit
    with_length = simp length-set

    -- the edit that is stored
    pub with_same : j * edit_width + 3 < length cells → back e ≡ e → edit_in (with_edit cells j e) j ≡ e
    unfolding with_edit edit_in
    with_same h b =
        let cs : List ℕ = edit_cells e in
        let f = four cells (j * edit_width) (get_or cs 0 0) (get_or cs 1 0) (get_or cs 2 0) (get_or cs 3 0) h in
        rw (f.0, f.1, f.2, f.3) b

    -- and any other
    pub with_other : (i : ℕ) → (i ≡ j → ⊥) → edit_in (with_edit cells j e) i ≡ edit_in cells i
    unfolding with_edit edit_in
    with_other i n =
        let cs : List ℕ = edit_cells e in
        let o = none_of cells (j * edit_width) (get_or cs 0 0) (get_or cs 1 0) (get_or cs 2 0) (get_or cs 3 0) in
        rw (
          o (i * edit_width) (λ k l q. n (omega arith)),
          o (i * edit_width + 1) (λ k l q. n (omega arith)),
          o (i * edit_width + 2) (λ k l q. n (omega arith)),
          o (i * edit_width + 3) (λ k l q. n (omega arith)),
        )

    pub edits_with : (n : ℕ) → j * edit_width + 3 < length cells → back e ≡ e → edits_in (with_edit cells j e) n ≡ set (edits_in cells n) j e
    edits_with n h b =
        let w : List ℕ = with_edit cells j e in
        let m : length (edits_in cells n) ≡ n = edits_length n in
        let m' : length (edits_in w n) ≡ n = long w n in
        ext_get_or Nothing (edits_in w n) (set (edits_in cells n) j e) (m' ∙ sym (length-set (edits_in cells n) j e ∙ m))
        (λ i l.
        let l' : i < n = omega arith in
        by_eq i j
        (λ q. rw q (rw q at (at w n i l') ∙ with_same h b ∙ sym (get_or-set_same (edits_in cells n) j e Nothing (omega arith))))
        (λ q. at w n i l' ∙ with_other i q ∙ sym (get_or-set_other (edits_in cells n) j i e Nothing q ∙ edits_at_lem n i Nothing l')))

-- ---- cells that are an edit row's stay so

-- the four cells of an edit
four_of : (e : Edit) → get_or (edit_cells e) 0 0 ∷ get_or (edit_cells e) 1 0 ∷ get_or (edit_cells e) 2 0 ∷ get_or (edit_cells e) 3 0 ∷ [] ≡ edit_cells e
unfolding edit_cells
four_of (Move to p v) = refl
four_of (Remat to v) = refl
four_of (Espill s r) = refl
four_of (Ereload r s) = refl
four_of (Misplaced to p) = refl
four_of Nothing = refl

module _ (cells : List ℕ) (j : ℕ) (e : Edit) where
  four_with : j * edit_width + 3 < length cells → four_in (with_edit cells j e) j ≡ edit_cells e
  unfolding four_in with_edit
  four_with h =
      let cs : List ℕ = edit_cells e in
      let f = four cells (j * edit_width) (get_or cs 0 0) (get_or cs 1 0) (get_or cs 2 0) (get_or cs 3 0) h in
      rw (f.0, f.1, f.2, f.3) (four_of e)

  four_other : (i : ℕ) → (i ≡ j → ⊥) → four_in (with_edit cells j e) i ≡ four_in cells i
  unfolding four_in with_edit
  four_other i n =
      let cs : List ℕ = edit_cells e in
      let o = none_of cells (j * edit_width) (get_or cs 0 0) (get_or cs 1 0) (get_or cs 2 0) (get_or cs 3 0) in
      rw (
        o (i * edit_width) (λ k l q. n (omega arith)),
        o (i * edit_width + 1) (λ k l q. n (omega arith)),
        o (i * edit_width + 2) (λ k l q. n (omega arith)),
        o (i * edit_width + 3) (λ k l q. n (omega arith)),
      )

  pub cells_same : j * edit_width + 3 < length cells → placed e ≡ true → SmallEdit e → SmallValue e → EditCells (with_edit cells j e) j
  cells_same h p s v =
      let b : edit_in (with_edit cells j e) j ≡ e = with_same cells j e h (read_back e p s) in
      record { kept = rw b (four_with h); small = rw b s; value = rw b v }

  pub cells_other : (i : ℕ) → (i ≡ j → ⊥) → EditCells cells i → EditCells (with_edit cells j e) i
  cells_other i n c =
      let b : edit_in (with_edit cells j e) i ≡ edit_in cells i = with_other cells j e i n in
      record { kept = rw b (four_other i n ∙ c.kept); small = rw b c.small; value = rw b c.value }

  -- and so of all, where e has small numbers
  pub cells_with : (i : ℕ) → i * edit_width + 3 < length cells → placed e ≡ true → SmallEdit e → SmallValue e → EditCells cells i → EditCells (with_edit cells j e) i
  cells_with i h p s v c = by_eq i j (λ q. rw q (cells_same (rw q at h) p s v)) (λ q. cells_other i q c)

-- ---- the edits that the sheet says

pub sheet_edit_is : (t : List ℕ) (n : ℕ) (d : EditRow) → d.edit ≡ Nothing → (get_or (sheet_in t).edits n d).edit ≡ edit_at_row t n
unfolding edit_at_row edit_of word find words
sheet_edit_is t n d q = part_of (edits_are t) (λ e. e.edit) n d (sym q)
