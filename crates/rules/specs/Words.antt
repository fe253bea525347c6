-- Cells of words by names that compute everywhere, for contracts and proofs; proofs/Words.antt has the others.
use Rattle.std.specs.Prelude.{◌≡◌, [], ◌∷◌, map, ℕ, length}
use Rattle.std.proofs.Math.Option.{some}
use Rattle.laws.specs.Lists.{from}
use Rattle.rules.specs.Text.{bytes}
use Rattle.rules.specs.Cells.{marks, words, word, cell_of, word_mark, reg_mark, slot_mark, class_mark, fixed_mark, reuse_mark}

abbrev pub slots_word : ℕ
slots_word = 100001

abbrev pub def_word : ℕ
def_word = 100014

abbrev pub use_word : ℕ
use_word = 100015

abbrev pub early_word : ℕ
early_word = 100016

abbrev pub move_word : ℕ
move_word = 100021

abbrev pub remat_word : ℕ
remat_word = 100022

abbrev pub espill_word : ℕ
espill_word = 100023

abbrev pub ereload_word : ℕ
ereload_word = 100024

abbrev pub none_word : ℕ
none_word = 100025

-- each word's cell is the mark and its place; each name is the cell of its word; each mark that of `r0`, `s0`, `c0`, `f0` or `u0`
pub record Named : Type 0 where
  pub by_place : map word words ≡ from word_mark (length words)
  pub by_word : map word ("slots" ∷ "def" ∷ "use" ∷ "early" ∷ "move" ∷ "remat" ∷ "espill" ∷ "ereload" ∷ "none" ∷ []) ≡ (slots_word ∷ def_word ∷ use_word ∷ early_word ∷ move_word ∷ remat_word ∷ espill_word ∷ ereload_word ∷ none_word ∷ [])
  pub by_mark : map (λ m. cell_of (m ∷ bytes "0")) marks ≡ map some (reg_mark ∷ slot_mark ∷ class_mark ∷ fixed_mark ∷ reuse_mark ∷ [])
