-- Document 01, "Rows": a field as one number, its cell, and the text of a cell. The paper's sentences stand above what says them.
--   A number n is n; a word is its mark and its place in `words`; r3 is the mark of registers and 3, and so on.
use Rattle.std.specs.Prelude.{ℕ, zero, suc, ◌+◌, ◌-◌, ◌*◌, ◌/◌, ◌%◌, Bool, true, false, cond, not, ◌&&◌, ◌||◌, List, [], ◌∷◌, ◌++◌, eqb, leb, ltb, length, get_or}
use Prim.Native.Char.{code}
use Prim.Native.String.{String}
use Rattle.std.proofs.Math.Option
use Rattle.std.proofs.Math.Option.{Option, none, some, bind, or_else, map}
use lib.Text.{eqt}
use Rattle.laws.specs.Lists.{all}
use Rattle.rules.specs.Text.{bytes, same}

-- "at most five digits": a number is below this; what else a field is has a mark in its cell, and a number below this
abbrev pub number_limit : ℕ
number_limit = 100000

-- the marks of words, of places, of constraints; every cell is below the end
abbrev pub word_mark : ℕ
word_mark = 100000

abbrev pub reg_mark : ℕ
reg_mark = 200000

abbrev pub slot_mark : ℕ
slot_mark = 300000

abbrev pub class_mark : ℕ
class_mark = 400000

abbrev pub fixed_mark : ℕ
fixed_mark = 500000

abbrev pub reuse_mark : ℕ
reuse_mark = 600000

abbrev pub mark_end : ℕ
mark_end = 700000

-- the place, counted from k, of the first that passes the test
unfoldable pub find : {A : Type 0} → (A → Bool) → ℕ → List A → Option ℕ
find p k [] = none
find p k (x ∷ xs) = cond (p x) (some k) (find p (k + 1) xs)

-- "Numbers are decimal, no leading zero, at most five digits."
unfoldable pub is_digit : ℕ → Bool
is_digit b = leb (code "0") b && leb b (code "9")

unfoldable pub decimal : ℕ → List ℕ → ℕ
decimal n [] = n
decimal n (b ∷ bs) = decimal (n * 10 + (b - code "0")) bs

unfoldable pub no_leading_zero : List ℕ → Bool
no_leading_zero f = eqb (length f) 1 || not (eqb (get_or f 0 0) (code "0"))

unfoldable pub number_of : List ℕ → Option ℕ
number_of f = cond (all is_digit f && leb 1 (length f) && leb (length f) 5 && no_leading_zero f) (some (decimal 0 f)) none

-- "Places: `r3`, `s0`. Constraints: `c0`, `f3`, `u1` (reuse of operand 1)."
unfoldable pub marks : List ℕ
marks = bytes "rscfu"

unfoldable pub marked_of : List ℕ → Option ℕ
marked_of [] = none
marked_of (b ∷ bs) = bind (find (eqb b) 2 marks) (λ k. map (λ n. k * number_limit + n) (number_of bs))

-- The words, in 01's order: `-`, the kinds of row, the operand kinds, the edit kinds.
unfoldable pub words : List String
words =
    "-"
    ∷ "slots" ∷ "reg" ∷ "class" ∷ "group" ∷ "value" ∷ "vgroup" ∷ "block" ∷ "succ" ∷ "pred" ∷ "param" ∷ "op" ∷ "clob" ∷ "edit"
    ∷ "def" ∷ "use" ∷ "early" ∷ "defg" ∷ "useg" ∷ "earlyg" ∷ "fixed"
    ∷ "move" ∷ "remat" ∷ "espill" ∷ "ereload" ∷ "none"
    ∷ []

unfoldable pub word_of : List ℕ → Option ℕ
word_of f = find (λ w. same f (bytes w)) word_mark words

-- the cell of a field
unfoldable pub cell_of : List ℕ → Option ℕ
cell_of f = or_else (number_of f) (or_else (marked_of f) (word_of f))

-- the cell of one of the words (`mark_end` is no cell)
unfoldable pub word : String → ℕ
word w = Option.get_or (find (eqt w) word_mark words) mark_end

-- The other way: the digits of any n, no leading zero. As n / 10 is less than n, n + 1 calls are enough.
unfoldable pub digits_in : ℕ → ℕ → List ℕ
digits_in zero n = []
digits_in (suc calls) n = elim (ltb n 10) [ true ↦ (code "0" + n) ∷ [] | false ↦ digits_in calls (n / 10) ++ ((code "0" + n % 10) ∷ []) ]

unfoldable pub digits_of : ℕ → List ℕ
digits_of n = digits_in (n + 1) n

-- the text of a cell
unfoldable pub field_of : ℕ → List ℕ
field_of c =
    cond (ltb c number_limit) (digits_of c)
    (cond (ltb c reg_mark) (bytes (get_or words (c - word_mark) ""))
    (get_or marks (c / number_limit - 2) 0 ∷ digits_of (c % number_limit)))
