-- For `put_cell` and `put_word` of src/text.rt: the text of each kind of cell, and of the cells of a place and of an edit. Assumes nothing.
use mathlib.Core.Path.{◌≡◌, refl, sym, ◌∙◌}
use mathlib.Core.List.{◌∷◌, map}
use Prim.Native.Nat.{ℕ, ◌-◌, ◌*◌, ◌/◌, ◌%◌, ◌<◌, ◌≤◌}
use native.Mathlib.Nat.{div-add-mod', mod-lt}
use native.Mathlib.Omega.{arith}
use lib.Dec.{eqb}
use lib.ListN.{get_or}
use borrow.Author.Tests.{lt-ltb, le-ltb, ne_eqb}
use Rattle.laws.proofs.Cases.{by_lt, eqb_same}
use Rattle.entity.specs.declared.forms.Place.{Place}
use Rattle.entity.specs.declared.forms.Place.TheVariants.{Reg, Slot}
use Rattle.entity.specs.declared.forms.Edit.{Edit}
use Rattle.entity.specs.declared.forms.Edit.TheVariants.{Move, Remat, Espill, Ereload, Misplaced, Nothing}
use Rattle.rules.specs.Words.{ereload_word, espill_word, move_word, none_word, remat_word}
use Rattle.rules.specs.Text.{bytes}
use Rattle.rules.specs.Cells.{digits_of, field_of, marks, words, word, find, number_limit, reg_mark, slot_mark}
use Rattle.rules.specs.Sheet.{place_of}
use Rattle.rules.specs.Accept.{same_place}
use Rattle.rules.specs.Answer.{place_cell, edit_cells}
use Rattle.table.specs.Edits.{SmallPlace, SmallEdit}
use Rattle.answer.specs.Text.{word_text, cell_text}
use Rattle.table.specs.Written.{SmallValue, PlaceCell}

module _ (c : ℕ) where
  pub cell_number : c < number_limit → digits_of c ≡ cell_text c
  unfolding cell_text
  cell_number h = rw (lt-ltb c number_limit h)

  pub cell_word : number_limit ≤ c → c < reg_mark → word_text c ≡ cell_text c
  unfolding cell_text
  cell_word h l = rw (le-ltb c number_limit h, lt-ltb c reg_mark l)

  pub cell_reg : reg_mark ≤ c → c < slot_mark → 114 ∷ digits_of (c - reg_mark) ≡ cell_text c
  unfolding cell_text
  cell_reg h l = rw (le-ltb c number_limit (omega arith), le-ltb c reg_mark h, lt-ltb c slot_mark l)

  pub cell_slot : slot_mark ≤ c → 115 ∷ digits_of (c - slot_mark) ≡ cell_text c
  unfolding cell_text
  cell_slot h = rw (le-ltb c number_limit (omega arith), le-ltb c reg_mark (omega arith), le-ltb c slot_mark h)

  pub word_other : (c ≡ move_word → ⊥) → (c ≡ remat_word → ⊥) → (c ≡ espill_word → ⊥) → (c ≡ ereload_word → ⊥) → (c ≡ none_word → ⊥) → bytes "-" ≡ word_text c
  unfolding word_text
  word_other a b d e f = rw (ne_eqb c move_word a, ne_eqb c remat_word b, ne_eqb c espill_word d, ne_eqb c ereload_word e, ne_eqb c none_word f)

-- ---- it is what the rules say

pub field_number : (c : ℕ) → c < number_limit → field_of c ≡ cell_text c
unfolding field_of cell_text
field_number c h = rw (lt-ltb c number_limit h)

marked : (k c m : ℕ) → c / number_limit ≡ k → get_or marks (k - 2) 0 ≡ m → 2 ≤ k → field_of c ≡ m ∷ digits_of (c - k * number_limit)
unfolding field_of
marked k c m e q h =
    let l : reg_mark ≤ c = omega (arith, div-add-mod' c number_limit) in
    let r : c % number_limit ≡ c - k * number_limit = omega (arith, div-add-mod' c number_limit) in
    rw (le-ltb c number_limit (omega arith), le-ltb c reg_mark l, e, q, r)

pub field_place : (c : ℕ) → PlaceCell c → field_of c ≡ cell_text c
unfolding marks bytes
field_place c h =
    by_lt c slot_mark
    (λ l. marked 2 c 114 (omega (arith, div-add-mod' c number_limit, mod-lt c {m = number_limit} (omega arith))) refl (omega arith) ∙ cell_reg c h.0 l)
    (λ l. marked 3 c 115 (omega (arith, div-add-mod' c number_limit, mod-lt c {m = number_limit} (omega arith))) refl (omega arith) ∙ cell_slot c l)

-- a place's cell
pub cell_of_place : (c : ℕ) → reg_mark ≤ c → place_cell (place_of c) ≡ c
unfolding place_cell place_of
cell_of_place c h =
    by_lt c slot_mark
    (λ l. rw (lt-ltb c slot_mark l) (omega arith))
    (λ l. rw (le-ltb c slot_mark l) (omega arith))

pub place_within : (p : Place) → SmallPlace p → PlaceCell (place_cell p)
unfolding place_cell
place_within (Reg r) h = (omega arith, omega arith)
place_within (Slot s) h = (omega arith, omega arith)

-- two place's cells are equal where their places are
pub same_place_lem : (a b : ℕ) → reg_mark ≤ a → reg_mark ≤ b → same_place (place_of a) (place_of b) ≡ eqb a b
unfolding same_place place_of
same_place_lem a b h k =
    by_lt a slot_mark
    (λ l.
    by_lt b slot_mark
    (λ m. rw (lt-ltb a slot_mark l, lt-ltb b slot_mark m) (eqb_same (a - reg_mark) (b - reg_mark) a b (λ e. omega arith) (λ e. omega arith)))
    (λ m. rw (lt-ltb a slot_mark l, le-ltb b slot_mark m) (sym (ne_eqb a b (λ e. omega arith)))))
    (λ l.
    by_lt b slot_mark
    (λ m. rw (le-ltb a slot_mark l, lt-ltb b slot_mark m) (sym (ne_eqb a b (λ e. omega arith))))
    (λ m. rw (le-ltb a slot_mark l, le-ltb b slot_mark m) (eqb_same (a - slot_mark) (b - slot_mark) a b (λ e. omega arith) (λ e. omega arith))))

-- the cells of an edit
place_text : (p : Place) → SmallPlace p → field_of (place_cell p) ≡ cell_text (place_cell p)
place_text p h = field_place (place_cell p) (place_within p h)

pub edit_text_lem : (e : Edit) → SmallEdit e → SmallValue e → map field_of (edit_cells e) ≡ map cell_text (edit_cells e)
unfolding edit_cells word words find field_of cell_text word_text bytes
edit_text_lem (Move to p v) h u = rw (place_text to h.0, place_text p h.1, field_number v.0 u)
edit_text_lem (Remat to v) h u = rw (place_text to h, field_number v.0 u)
edit_text_lem (Espill s r) h u = rw (place_text (Slot s) h.0, place_text (Reg r) h.1)
edit_text_lem (Ereload r s) h u = rw (place_text (Reg r) h.0, place_text (Slot s) h.1)
edit_text_lem (Misplaced to p) h u = refl
edit_text_lem Nothing h u = refl
