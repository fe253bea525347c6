-- Bytes laid over a buffer, and the text of what stands in an answer's rows.
use Rattle.std.specs.Prelude.{◌≡◌, cond, List, ◌∷◌, ℕ, ◌+◌, ◌-◌, ◌≤◌, ltb, eqb, length}
use Rattle.std.proofs.lemmas.List.Edits.{sets}
use Rattle.rules.specs.Words.{ereload_word, espill_word, move_word, none_word, remat_word}
use Rattle.rules.specs.Text.{bytes}
use Rattle.rules.specs.Cells.{digits_of, number_limit, reg_mark, slot_mark}
use Rattle.answer.specs.declared.text.Writer.{Writer}

-- `out` with the bytes of `text` stored one after the other from `at` on; what falls past the end is not stored
unfoldable pub over : List ℕ → ℕ → List ℕ → List ℕ
over out at text = sets out at text

-- where places fit 64 bits: `new` is `old` with `text` laid over its buffer from its place on, and its place is the one after it; its buffer is that of `old`
pub record Laid (text : List ℕ) (old new : Writer) : Type 0 where
  pub laid : old.at + length text ≤ 18446744073709551615 → (new.out.now ≡ over old.out.now old.at text) × (new.at ≡ old.at + length text)
  pub kept : new.out.ghost_name ≡ old.out.ghost_name

-- the words that stand in an edit row; `-` for any other
unfoldable pub word_text : ℕ → List ℕ
word_text c =
    cond (eqb c move_word) (bytes "move")
    (cond (eqb c remat_word) (bytes "remat")
    (cond (eqb c espill_word) (bytes "espill")
    (cond (eqb c ereload_word) (bytes "ereload")
    (cond (eqb c none_word) (bytes "none")
    (bytes "-")))))

-- a cell of an answer's row: a number, a word, a register or a slot. Of these cells it is rules' `field_of`.
unfoldable pub cell_text : ℕ → List ℕ
cell_text c =
    cond (ltb c number_limit) (digits_of c)
    (cond (ltb c reg_mark) (word_text c)
    (cond (ltb c slot_mark) (114 ∷ digits_of (c - reg_mark))
    (115 ∷ digits_of (c - slot_mark))))
