use mathlib.Core.Path.{ap, sym}
use mathlib.Core.List.{List, ◌∷◌}
use Prim.Native.Nat.{ℕ}
use native.Mathlib.Omega.{arith}
use Rattle.rules.specs.Text.{bytes}
use Rattle.answer.specs.Text.{word_text}
use Rattle.answer.proofs.Laying.{laid_as}
use Rattle.answer.proofs.Cells.{word_other}
use Rattle.answer.proofs.text.Writer.next_word.Goals as goal

abbrev after : ℕ → List ℕ
after c = 44 ∷ word_text c

pub returns-in-100021 : goal.returns-in-100021
unfolding word_text bytes
returns-in-100021 c = laid_as (sym (ap after c.in-100021.is)) c.text.ensures

pub returns-in-100022 : goal.returns-in-100022
unfolding word_text bytes
returns-in-100022 c = laid_as (sym (ap after c.in-100022.is)) c.text-in-100022.ensures

pub returns-in-100023 : goal.returns-in-100023
unfolding word_text bytes
returns-in-100023 c = laid_as (sym (ap after c.in-100023.is)) c.text-in-100023.ensures

pub returns-in-100024 : goal.returns-in-100024
unfolding word_text bytes
returns-in-100024 c = laid_as (sym (ap after c.in-100024.is)) c.text-in-100024.ensures

pub returns-in-100025 : goal.returns-in-100025
unfolding word_text bytes
returns-in-100025 c = laid_as (sym (ap after c.in-100025.is)) c.text-in-100025.ensures

pub returns-in_default : goal.returns-in_default
unfolding word_text bytes
returns-in_default c = laid_as (ap (λ (s : List ℕ). 44 ∷ s) (word_other c.args.c (λ e. omega arith) (λ e. omega arith) (λ e. omega arith) (λ e. omega arith) (λ e. omega arith))) c.text-in_default.ensures
