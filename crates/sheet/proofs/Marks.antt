-- For `field` of src/lexing.rt: which reading a field has, by its first byte and the one behind it. Assumes nothing.
use mathlib.Core.Path.{◌≡◌, refl, sym, ◌∙◌, ap, subst}
use mathlib.Core.Bool.{Bool, true, false, ◌||◌}
use mathlib.Core.Logic.{◌⊎◌, ⊎_elim}
use mathlib.Core.List.{List, [], ◌∷◌}
use mathlib.Core.Option.{Option, none, some, bind, or_else, map}
use Prim.Native.Nat.{ℕ, suc, ◌+◌, ◌*◌, ◌<◌, ◌≤◌}
use native.Mathlib.Nat.{zero-add}
use native.Mathlib.Omega.{arith}
use lib.ListN.{length, get_or, drop}
use lib.Seq.{get_or-drop}
use lib.Dec.{eqb}
use borrow.Author.Tests.{ne_eqb, lt-leb, le-leb}
use Rattle.laws.proofs.Cases.{by_bool, by_lt, some_ne_none}
use Rattle.rules.specs.Text.{bytes}
use Rattle.rules.specs.Cells.{find, marks, is_digit, number_of, marked_of, word_of, cell_of, number_limit}
use Rattle.sheet.specs.Answers.{up_to, comma, crlf, ended, number_from, field_by, field_at}
use Rattle.std.specs.declared.option.Option.TheVariants.{None}
use Rattle.rules.specs.Rows.{reading}
use Rattle.sheet.proofs.Lists.{drop_step, drop_end}
use Rattle.sheet.proofs.Numbers.{digit_is}
use Rattle.sheet.proofs.Packing.{word_first, word_second}

-- ---- marks

-- what is found is one of as many numbers from k on as there are to look through
Below : ℕ → Option ℕ → Type 0
Below n none = Unit {0}
Below n (some k) = k < n

find_below : {A : Type 0} (p : A → Bool) (k n : ℕ) (xs : List A) → k + length xs ≤ n → Below n (find p k xs)
unfolding Below find
find_below p k n [] h = tt
find_below p k n (x ∷ xs) h = by_bool (p x) (λ e. rw e (omega arith)) (λ e. rw e (find_below p (k + 1) n xs (omega arith)))

pub mark_below : (b k : ℕ) → find (eqb b) 2 marks ≡ some k → k ≤ 6
unfolding Below marks bytes
mark_below b k e =
    let l : k < 7 = subst (Below 7) e (find_below (eqb b) 2 7 marks (omega arith)) in omega arith

no_mark : (b : ℕ) → b ≤ 57 → find (eqb b) 2 marks ≡ none
unfolding find marks bytes
no_mark b h = rw (ne_eqb b 114 (λ e. omega arith), ne_eqb b 115 (λ e. omega arith), ne_eqb b 99 (λ e. omega arith), ne_eqb b 102 (λ e. omega arith), ne_eqb b 117 (λ e. omega arith))

mark_high : (b k : ℕ) → find (eqb b) 2 marks ≡ some k → 57 < b
mark_high b k e = by_lt 57 b (λ h. h) (λ h. some_ne_none e (no_mark b h))

-- ---- the first byte

up_to_first : (b : ℕ) (bs : List ℕ) → 44 < b → up_to (b ∷ bs) ≡ b ∷ up_to bs
unfolding up_to
up_to_first b bs h = rw (ne_eqb b 44 (λ e. omega arith), ne_eqb b 13 (λ e. omega arith))

first_digit : (t : List ℕ) → is_digit (get_or t 0 0) ≡ true → get_or (up_to t) 0 0 ≡ get_or t 0 0
unfolding up_to
first_digit [] e = refl
first_digit (b ∷ bs) e = rw (up_to_first b bs (omega (arith, digit_is b e)))

nil_number : number_of [] ≡ none
unfolding number_of
nil_number = refl

no_digit : (b : ℕ) (f : List ℕ) → is_digit b ≡ false → number_of (b ∷ f) ≡ none
unfolding number_of
no_digit b f e = rw e

high_none : (b : ℕ) (f : List ℕ) → 57 < b → number_of (b ∷ f) ≡ none
unfolding is_digit
high_none b f h = no_digit b f (rw (le-leb 48 b (omega arith), lt-leb b 57 h))

no_number : (t : List ℕ) → is_digit (get_or t 0 0) ≡ false → number_of (up_to t) ≡ none
unfolding up_to
no_number [] e = nil_number
no_number (b ∷ bs) e = by_bool (eqb b 44 || eqb b 13) (λ g. rw g nil_number) (λ g. rw g (no_digit b (up_to bs) e))

no_marked : (b : ℕ) (bs : List ℕ) → find (eqb b) 2 marks ≡ none → marked_of (up_to (b ∷ bs)) ≡ none
unfolding up_to marked_of bind
no_marked b bs e = by_bool (eqb b 44 || eqb b 13) (λ g. rw g) (λ g. rw (g, e))

-- ---- which reading

or_none : (o : Option ℕ) → or_else o none ≡ o
unfolding or_else
or_none none = refl
or_none (some n) = refl

from_0 : (o : Option ℕ) → map (λ n. 0 + n) o ≡ o
from_0 none = refl
from_0 (some n) = ap some (zero-add n)

pub nil_unread : (s : List ℕ) (at : ℕ) → length s ≤ at → None ≡ field_at (drop at s) at
unfolding field_at ended up_to reading
nil_unread s at h = rw (drop_end s at h)

-- at a byte that is no end, what is behind it is read on
behind : (b : ℕ) (bs : List ℕ) (at : ℕ) (o : Option ℕ) → 44 < b
    → ended o (comma (drop (length (up_to bs)) bs)) (crlf (drop (length (up_to bs)) bs)) (at + 1 + length (up_to bs))
    ≡ ended o (comma (drop (length (up_to (b ∷ bs))) (b ∷ bs))) (crlf (drop (length (up_to (b ∷ bs))) (b ∷ bs))) (at + length (up_to (b ∷ bs)))
behind b bs at o h =
    let e : at + 1 + length (up_to bs) ≡ at + suc (length (up_to bs)) = omega arith in
    rw (up_to_first b bs h, e)

module _ (b : ℕ) (bs : List ℕ) (at : ℕ) where
  by_cell : (cell : List ℕ → Option ℕ) → cell (up_to (b ∷ bs)) ≡ cell_of (up_to (b ∷ bs)) → field_by cell (b ∷ bs) at ≡ field_at (b ∷ bs) at
  unfolding field_at
  by_cell cell e = rw e

  number_cell : find (eqb b) 2 marks ≡ none → is_digit b ≡ true → number_from 0 (up_to (b ∷ bs)) ≡ cell_of (up_to (b ∷ bs))
  unfolding cell_of number_from or_else
  number_cell e d =
      let f = up_to (b ∷ bs) in
      rw (no_marked b bs e, word_first f (ap is_digit (first_digit (b ∷ bs) d) ∙ d)) (from_0 (number_of f) ∙ sym (or_none (number_of f)))

  pub is_number : find (eqb b) 2 marks ≡ none → is_digit b ≡ true → field_by (number_from 0) (b ∷ bs) at ≡ field_at (b ∷ bs) at
  is_number e d = by_cell (number_from 0) (number_cell e d)

  pub is_word : find (eqb b) 2 marks ≡ none → is_digit b ≡ false → field_by word_of (b ∷ bs) at ≡ field_at (b ∷ bs) at
  unfolding cell_of or_else
  is_word e d = by_cell word_of (rw (no_number (b ∷ bs) d, no_marked b bs e))

  module _ (k : ℕ) (e : find (eqb b) 2 marks ≡ some k) where
    marked_cell : marked_of (b ∷ up_to bs) ≡ number_from (k * number_limit) (up_to bs)
    unfolding marked_of bind number_from
    marked_cell = rw e

    cell_marked : cell_of (up_to (b ∷ bs)) ≡ or_else (number_from (k * number_limit) (up_to bs)) (word_of (b ∷ up_to bs))
    unfolding cell_of or_else
    cell_marked = let h = mark_high b k e in rw (up_to_first b bs (omega arith), high_none b (up_to bs) h, marked_cell)

    pub is_marked : is_digit (get_or bs 0 0) ≡ true → field_by (number_from (k * number_limit)) bs (at + 1) ≡ field_at (b ∷ bs) at
    unfolding field_at
    is_marked d =
        let h = mark_high b k e in
        let w : word_of (b ∷ up_to bs) ≡ none = word_second (b ∷ up_to bs) (ap is_digit (first_digit bs d) ∙ d) in
        let c : cell_of (up_to (b ∷ bs)) ≡ number_from (k * number_limit) (up_to bs) = cell_marked ∙ rw w (or_none _) in
        rw c (behind b bs at (number_from (k * number_limit) (up_to bs)) (omega arith))

    pub is_word_too : is_digit (get_or bs 0 0) ≡ false → field_by word_of (b ∷ bs) at ≡ field_at (b ∷ bs) at
    unfolding number_from or_else
    is_word_too d =
        let h = mark_high b k e in
        by_cell word_of (sym (cell_marked ∙ rw (no_number bs d, up_to_first b bs (omega arith))))

-- ---- at a cursor: with the mark of cell `base` at `at`, or none, digits would begin at `from`

abbrev pub Begun : List ℕ → ℕ → ℕ → ℕ → Type 0
Begun s at from base =
    ((k : ℕ) × (find (eqb (get_or s at 0)) 2 marks ≡ some k) × (from ≡ at + 1) × (base ≡ k * number_limit))
    ⊎ ((find (eqb (get_or s at 0)) 2 marks ≡ none) × (from ≡ at) × (base ≡ 0))

module _ (s : List ℕ) (at from base : ℕ) (h : at < length s) where
  behind_is : from ≡ at + 1 → get_or (drop (at + 1) s) 0 0 ≡ get_or s from 0
  behind_is f = let z : at + 1 + 0 ≡ from = omega arith in get_or-drop (at + 1) s 0 0 ∙ ap (λ (i : ℕ). get_or s i 0) z

  pub begun_number : Begun s at from base → is_digit (get_or s from 0) ≡ true → field_by (number_from base) (drop from s) from ≡ field_at (drop at s) at
  begun_number b d =
      ⊎_elim
      (λ w. rw (w.3, w.2, drop_step s at h) (is_marked (get_or s at 0) (drop (at + 1) s) at w.0 w.1 (ap is_digit (behind_is w.2) ∙ d)))
      (λ w. rw (w.2, w.1, drop_step s at h) (is_number (get_or s at 0) (drop (at + 1) s) at w.0 (ap (λ (i : ℕ). is_digit (get_or s i 0)) (sym w.1) ∙ d)))
      b

  pub begun_word : Begun s at from base → is_digit (get_or s from 0) ≡ false → field_by word_of (drop at s) at ≡ field_at (drop at s) at
  begun_word b d =
      ⊎_elim
      (λ w. rw (drop_step s at h) (is_word_too (get_or s at 0) (drop (at + 1) s) at w.0 w.1 (ap is_digit (behind_is w.2) ∙ d)))
      (λ w. rw (drop_step s at h) (is_word (get_or s at 0) (drop (at + 1) s) at w.0 (ap (λ (i : ℕ). is_digit (get_or s i 0)) (sym w.1) ∙ d)))
      b
