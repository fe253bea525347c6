-- Document 01, "Rows": a sheet's bytes as its rows of cells. `rows_of` is `none` exactly on the sheets that refusal 1 refuses.
-- The paper's sentences stand above what says them.
use Rattle.std.specs.Prelude.{ℕ, ◌+◌, Bool, true, false, cond, ◌&&◌, ◌||◌, eqb, leb, ltb, length, get_or}
use Prim.Native.Char.{code}
use Prim.Native.String.{String}
use mathlib.Core.List.{List, [], ◌∷◌, ◌++◌, map, flat_map}
use Rattle.std.proofs.Math.Option
use Rattle.std.proofs.Math.Option.{Option, none, some, bind, or_else, Option-elim}
use Rattle.rules.specs.Text.{bytes, same}
use Rattle.laws.specs.Lists.{all}
use Rattle.entity.specs.Limits.{byte_limit}
use Rattle.rules.specs.Cells.{find, is_digit, decimal, no_leading_zero, number_of, marks, marked_of, words, word_of, cell_of, word, digits_in, digits_of, field_of, class_mark, mark_end, number_limit, reg_mark}

-- In front of the rows that follow: a row that ends here, a field that ends here, and one byte more of the field at hand.
unfoldable pub new_row : List (List (List ℕ)) → Option (List (List (List ℕ)))
new_row rs = some (([] ∷ []) ∷ rs)

unfoldable pub new_field : List (List (List ℕ)) → Option (List (List (List ℕ)))
new_field [] = none
new_field (r ∷ rs) = some (([] ∷ r) ∷ rs)

unfoldable pub onto : ℕ → List (List (List ℕ)) → Option (List (List (List ℕ)))
onto b [] = none
onto b ([] ∷ rs) = none
onto b ((f ∷ fs) ∷ rs) = some (((b ∷ f) ∷ fs) ∷ rs)

-- "Rows follow RFC 4180 without quotes; every row ends in CR LF." A comma ends a field, CR LF a row. A CR that no LF follows breaks
-- the sheet, and so does whatever stands after the last CR LF. The flag says that the byte before was a CR.
unfoldable pub cut : List ℕ → Bool → Option (List (List (List ℕ)))
cut [] true = none
cut [] false = some []
cut (b ∷ bs) true = elim (eqb b (code "\n")) [ true ↦ bind (cut bs false) new_row | false ↦ none ]
cut (b ∷ bs) false =
    elim (eqb b (code "\r")) [
      | true ↦ cut bs true
      | false ↦ elim (eqb b (code ",")) [ true ↦ bind (cut bs false) new_field | false ↦ bind (cut bs false) (onto b) ]
    ]

-- f of each, if f has an answer for each
unfoldable pub every : {A B : Type 0} → (A → Option B) → List A → Option (List B)
every f [] = some []
every f (x ∷ xs) = bind (f x) (λ y. Option.map (λ ys. y ∷ ys) (every f xs))

-- the rows' cells
unfoldable pub cells_of : List ℕ → Option (List (List ℕ))
cells_of s = bind (cut s false) (every (every cell_of))

-- What a field may be. "Flags are 0 or 1." `only w` is that word, `v up_to w` one of the words from v to w.
infix 45 ◌up_to◌
pub data Field : Type 0 where
  number flag dash number_or_dash place constraint : Field
  only : String → Field
  ◌up_to◌ : String → String → Field

unfoldable pub field_ok : Field → ℕ → Bool
field_ok number c = ltb c number_limit
field_ok flag c = ltb c 2
field_ok dash c = eqb c (word "-")
field_ok number_or_dash c = ltb c number_limit || eqb c (word "-")
field_ok place c = leb reg_mark c && ltb c class_mark
field_ok constraint c = leb class_mark c && ltb c mark_end
field_ok (only w) c = eqb c (word w)
field_ok (v up_to w) c = leb (word v) c && leb c (word w)

-- What may stand after a kind's word: fields, and then nothing, a `..` list, or a `..` list of at least one member.
infixr 40 ◌▸◌
infixr 35 ◌or◌
pub data Shape : Type 0 where
  end list list₁ : Shape
  ◌▸◌ : Field → Shape → Shape
  ◌or◌ : Shape → Shape → Shape

unfoldable pub fits : Shape → List ℕ → Bool
fits end cs = eqb (length cs) 0
fits list cs = all (field_ok number) cs
fits list₁ cs = ltb 0 (length cs) && all (field_ok number) cs
fits (f ▸ s) [] = false
fits (f ▸ s) (c ∷ cs) = field_ok f c && fits s cs
fits (s or t) cs = fits s cs || fits t cs

-- How the first fields of a kind's rows go.
pub data Order : Type 0 where
  once counts rises never_falls free : Order

pub record Kind : Type 0 where
  pub name : String
  pub order : Order
  pub shape : Shape

-- "`op,inst,kind,subject,constraint,place`"; "Operand kinds: `def use early defg useg earlyg fixed`, the last being `NonAllocatable`,
-- subject `-`."
unfoldable pub op_shape : Shape
op_shape =
    number ▸ "def" up_to "earlyg" ▸ number ▸ constraint ▸ place ▸ end
    or number ▸ only "fixed" ▸ dash ▸ constraint ▸ place ▸ end

-- "`edit,inst,kind,to,from,value`"; "Edit kinds: `move`; `remat` (from `-`); `espill` and `ereload` (value `-`); `none` (three `-`)."
unfoldable pub edit_shape : Shape
edit_shape =
    number ▸ only "move" ▸ place ▸ place ▸ number ▸ end
    or number ▸ only "remat" ▸ place ▸ dash ▸ number ▸ end
    or number ▸ "espill" up_to "ereload" ▸ place ▸ place ▸ dash ▸ end
    or number ▸ only "none" ▸ dash ▸ dash ▸ dash ▸ end

-- "Kinds come in this order: `slots,n` once; `reg,r,memory,unit..`; `class,c,slots,reg..`; `group,g,class,reg..`; `value,v,home` (a slot's
-- number); `vgroup,g,value..`; `block,b,instructions,idom,entry`; `succ,b,block..`; `pred,b,block..`; `param,b,value,place`; `op,..`;
-- `clob,inst,unit..`; `edit,..`." "`reg`, `class`, `group`, `value`, `vgroup` and `block` count from 0 without gaps; `succ`, `pred` and
-- `clob` rise strictly; `param` and `op` never fall." (Edits may: that is 6.) "A `..` list in `reg`, `group`, `vgroup`, `succ`, `pred`,
-- `clob` has at least one member; a class may have none." "`-` also stands for no home slot and no idom; nowhere else."
unfoldable pub kinds : List Kind
kinds =
    record { name = "slots"; order = once; shape = number ▸ end }
    ∷ record { name = "reg"; order = counts; shape = number ▸ flag ▸ list₁ }
    ∷ record { name = "class"; order = counts; shape = number ▸ flag ▸ list }
    ∷ record { name = "group"; order = counts; shape = number ▸ number ▸ list₁ }
    ∷ record { name = "value"; order = counts; shape = number ▸ number_or_dash ▸ end }
    ∷ record { name = "vgroup"; order = counts; shape = number ▸ list₁ }
    ∷ record { name = "block"; order = counts; shape = number ▸ number ▸ number_or_dash ▸ flag ▸ end }
    ∷ record { name = "succ"; order = rises; shape = number ▸ list₁ }
    ∷ record { name = "pred"; order = rises; shape = number ▸ list₁ }
    ∷ record { name = "param"; order = never_falls; shape = number ▸ number ▸ place ▸ end }
    ∷ record { name = "op"; order = never_falls; shape = op_shape }
    ∷ record { name = "clob"; order = rises; shape = number ▸ list₁ }
    ∷ record { name = "edit"; order = free; shape = edit_shape }
    ∷ []

unfoldable pub kind_from : List Kind → ℕ → Option Kind
kind_from [] c = none
kind_from (k ∷ ks) c = cond (eqb c (word k.name)) (some k) (kind_from ks c)

-- a row's kind and its first field
abbrev pub kind : List ℕ → ℕ
kind r = get_or r 0 0

abbrev pub first : List ℕ → ℕ
first r = get_or r 1 0

-- a row by itself: one of the kinds, and of its shape
unfoldable pub row_ok : List ℕ → Bool
row_ok [] = false
row_ok (c ∷ cs) = Option-elim (kind_from kinds c) false (λ k. fits k.shape cs)

-- a first field where its kind begins, and after a row of its kind whose first field is x
unfoldable pub begins : Order → ℕ → Bool
begins o n = elim o [ counts ↦ eqb n 0 | once ↦ true | rises ↦ true | never_falls ↦ true | free ↦ true ]

unfoldable pub goes_on : Order → ℕ → ℕ → Bool
goes_on once x n = false
goes_on counts x n = eqb n (x + 1)
goes_on rises x n = ltb x n
goes_on never_falls x n = leb x n
goes_on free x n = true

-- "Kinds come in this order": a row r that follows the row p is of a later kind and begins it, or of the same kind and goes on
unfoldable pub pair_ok : List ℕ → List ℕ → Bool
pair_ok p r =
    Option-elim (kind_from kinds (kind r)) false (λ k.
    (ltb (kind p) (kind r) && begins k.order (first r)) || (eqb (kind p) (kind r) && goes_on k.order (first p) (first r)))

unfoldable pub pairs_ok : List ℕ → List (List ℕ) → Bool
pairs_ok p [] = true
pairs_ok p (r ∷ rs) = pair_ok p r && pairs_ok r rs

-- "`slots,n` once": it is the first row
unfoldable pub sheet_ok : List (List ℕ) → Bool
sheet_ok [] = false
sheet_ok (r ∷ rs) = eqb (kind r) (word "slots") && all row_ok (r ∷ rs) && pairs_ok r rs

-- 1: "sheet over 65,536 bytes, or broken rows"
unfoldable pub rows_of : List ℕ → Option (List (List ℕ))
rows_of s = cond (leb (length s) byte_limit) (bind (cells_of s) (λ rows. cond (sheet_ok rows) (some rows) none)) none

-- The other way: fields with commas between them and CR LF after them; and the bytes of a row of cells.
unfoldable pub line_of : List (List ℕ) → List ℕ
line_of [] = bytes "\r\n"
line_of (f ∷ fs) = f ++ flat_map (λ g. code "," ∷ g) fs ++ bytes "\r\n"

unfoldable pub row_text : List ℕ → List ℕ
row_text r = line_of (map field_of r)

-- `unfolding reading` opens all of the above
unfoldable pub reading : Bool
unfolding bytes same find is_digit decimal no_leading_zero number_of marks marked_of words word_of cell_of word digits_in digits_of field_of bind or_else Option-elim flat_map new_row new_field onto cut every cells_of field_ok fits op_shape edit_shape kinds kind_from row_ok begins goes_on pair_ok pairs_ok sheet_ok rows_of line_of row_text
reading = true
