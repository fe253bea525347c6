-- For `rows` of src/lexing.rt, one field cut off a sheet, and what is left: `cut` and `cells_of` of rules/specs/Rows.antt, a field at a time. Assumes nothing.
use mathlib.Core.Path.{◌≡◌, refl, sym, ◌∙◌, ap, subst}
use mathlib.Core.Bool.{Bool, true, false, false≢true}
use mathlib.Core.Logic.{◌⊎◌, inl, inr, ⊎_elim}
use mathlib.Core.List.{List, [], ◌∷◌}
use mathlib.Core.Option.{Option, none, some, bind, map}
use Prim.Native.Nat.{ℕ, ◌+◌, ◌-◌, ◌<◌}
use native.Mathlib.Nat.{add_assoc}
use native.Mathlib.Omega.{arith}
use lib.ListN.{length, drop, length-drop}
use lib.Seq.{drop-drop}
use lib.Dec.{eqb}
use borrow.Author.Tests.{ne_eqb, eqb-true, eqb-false}
use Rattle.laws.proofs.Cases.{some_ne_none}
use Rattle.rules.specs.Cells.{cell_of}
use Rattle.rules.specs.Rows.{new_row, new_field, onto, cut, every, cells_of, reading}
use Rattle.sheet.specs.Answers.{up_to, comma, crlf, ended, field_at}
use Rattle.sheet.specs.declared.lexing.Piece.TheVariants.{More, Last}
use Rattle.std.specs.declared.option.Option.TheVariants.{Some, None}

abbrev Bytes : Type 0
Bytes = Option (List (List (List ℕ)))

-- ---- one byte

cut_other : (a : ℕ) (bs : List ℕ) → (a ≡ 44 → ⊥) → (a ≡ 13 → ⊥) → cut (a ∷ bs) false ≡ bind (cut bs false) (onto a)
unfolding cut
cut_other a bs p q = rw (ne_eqb a 13 q, ne_eqb a 44 p, cut)

cut_comma : (bs : List ℕ) → cut (44 ∷ bs) false ≡ bind (cut bs false) new_field
unfolding cut
cut_comma bs = refl

cut_lone : (bs : List ℕ) → crlf (13 ∷ bs) ≡ false → cut (13 ∷ bs) false ≡ none
unfolding cut crlf
cut_lone [] e = refl
cut_lone (b ∷ bs) e = rw (e, cut)

cut_row : (bs : List ℕ) → crlf (13 ∷ bs) ≡ true → cut (13 ∷ bs) false ≡ bind (cut (drop 1 bs) false) new_row
unfolding cut crlf
cut_row [] e = absurd (false≢true e)
cut_row (b ∷ bs) e = rw (e, cut)

-- what a byte is to `cut`
three : (b : ℕ) → (b ≡ 44) ⊎ ((b ≡ 13) ⊎ ((b ≡ 44 → ⊥) × (b ≡ 13 → ⊥)))
three b = go (eqb b 44) (eqb b 13) refl refl
  where
    go : (p q : Bool) → eqb b 44 ≡ p → eqb b 13 ≡ q → (b ≡ 44) ⊎ ((b ≡ 13) ⊎ ((b ≡ 44 → ⊥) × (b ≡ 13 → ⊥)))
    go true q x y = inl (eqb-true b 44 x)
    go false true x y = inr (inl (eqb-true b 13 y))
    go false false x y = inr (inr (eqb-false b 44 x, eqb-false b 13 y))

-- ---- one field

field_then : List ℕ → Bytes → Bytes
field_then f none = none
field_then f (some []) = none
field_then f (some (r ∷ rs)) = some ((f ∷ r) ∷ rs)

row_then : List ℕ → Bytes → Bytes
row_then f none = none
row_then f (some rs) = some ((f ∷ []) ∷ rs)

field_nil : (x : Bytes) → bind x new_field ≡ field_then [] x
unfolding bind new_field field_then
field_nil none = refl
field_nil (some []) = refl
field_nil (some (r ∷ rs)) = refl

field_cons : (a : ℕ) (f : List ℕ) (x : Bytes) → bind (field_then f x) (onto a) ≡ field_then (a ∷ f) x
unfolding bind onto field_then
field_cons a f none = refl
field_cons a f (some []) = refl
field_cons a f (some (r ∷ rs)) = refl

row_nil : (x : Bytes) → bind x new_row ≡ row_then [] x
unfolding bind new_row row_then
row_nil none = refl
row_nil (some rs) = refl

row_cons : (a : ℕ) (f : List ℕ) (x : Bytes) → bind (row_then f x) (onto a) ≡ row_then (a ∷ f) x
unfolding bind onto row_then
row_cons a f none = refl
row_cons a f (some rs) = refl

-- the sheet from its first field f and what stands after it, u, of which it is known whether a comma or CR LF begins it
next : Bool → Bool → List ℕ → List ℕ → Bytes
next true q f u = field_then f (cut (drop 1 u) false)
next false true f u = row_then f (cut (drop 2 u) false)
next false false f u = none

next_cons : (p q : Bool) (a : ℕ) (f u : List ℕ) → bind (next p q f u) (onto a) ≡ next p q (a ∷ f) u
unfolding bind next onto
next_cons true q a f u = field_cons a f (cut (drop 1 u) false)
next_cons false true a f u = row_cons a f (cut (drop 2 u) false)
next_cons false false a f u = refl

unfoldable pub after : List ℕ → List ℕ
after t = drop (length (up_to t)) t

abbrev Nexts : List ℕ → Type 0
Nexts t = cut t false ≡ next (comma (after t)) (crlf (after t)) (up_to t) (after t)

at_comma : (bs : List ℕ) → Nexts (44 ∷ bs)
unfolding after up_to comma next
at_comma bs = cut_comma bs ∙ field_nil (cut bs false)

at_cr : (bs : List ℕ) → Nexts (13 ∷ bs)
unfolding after up_to comma next
at_cr bs = go (crlf (13 ∷ bs)) refl
  where
    go : (q : Bool) → crlf (13 ∷ bs) ≡ q → cut (13 ∷ bs) false ≡ next false q [] (13 ∷ bs)
    go true e = cut_row bs e ∙ row_nil (cut (drop 1 bs) false)
    go false e = cut_lone bs e

at_other : (b : ℕ) (bs : List ℕ) → (b ≡ 44 → ⊥) → (b ≡ 13 → ⊥) → Nexts bs → Nexts (b ∷ bs)
unfolding after up_to
at_other b bs p q h = cut_other b bs p q ∙ ap (λ (x : Bytes). bind x (onto b)) h ∙ rw (ne_eqb b 44 p, ne_eqb b 13 q) (next_cons _ _ b (up_to bs) _)

at_last : (b : ℕ) → (b ≡ 44 → ⊥) → (b ≡ 13 → ⊥) → Nexts (b ∷ [])
unfolding after up_to comma crlf next cut bind onto
at_last b p q = cut_other b [] p q ∙ rw (ne_eqb b 44 p, ne_eqb b 13 q)

-- a sheet is its first field, and then what stands after that
cut_next : (t : List ℕ) → 0 < length t → Nexts t
cut_next [] h = absurd (omega arith)
cut_next (b ∷ []) h =
    ⊎_elim (λ (e : b ≡ 44). subst (λ (x : ℕ). Nexts (x ∷ [])) (sym e) (at_comma []))
    (⊎_elim (λ (e : b ≡ 13). subst (λ (x : ℕ). Nexts (x ∷ [])) (sym e) (at_cr [])) (λ n. at_last b n.0 n.1)) (three b)
cut_next (b ∷ d ∷ bs) h =
    ⊎_elim (λ (e : b ≡ 44). subst (λ (x : ℕ). Nexts (x ∷ d ∷ bs)) (sym e) (at_comma (d ∷ bs)))
    (⊎_elim (λ (e : b ≡ 13). subst (λ (x : ℕ). Nexts (x ∷ d ∷ bs)) (sym e) (at_cr (d ∷ bs))) (λ n. at_other b (d ∷ bs) n.0 n.1 (cut_next (d ∷ bs) (omega arith)))) (three b)

-- ---- and their cells

abbrev Cells : Type 0
Cells = Option (List (List ℕ))

-- a cell in front of the first row; a row of one cell in front
unfoldable pub cell_then : Option ℕ → Cells → Cells
cell_then none x = none
cell_then (some c) none = none
cell_then (some c) (some []) = none
cell_then (some c) (some (r ∷ rs)) = some ((c ∷ r) ∷ rs)

unfoldable pub last_then : Option ℕ → Cells → Cells
last_then none x = none
last_then (some c) none = none
last_then (some c) (some rs) = some ((c ∷ []) ∷ rs)

-- the two in front of what follows, if there are both
abbrev cons? : {B : Type 0} → Option B → Option (List B) → Option (List B)
cons? o ys = bind o (λ y. map (λ l. y ∷ l) ys)

swap : (o : Option ℕ) (r : Option (List ℕ)) (rs : Cells) → cons? (cons? o r) rs ≡ cell_then o (cons? r rs)
unfolding bind cell_then
swap none r rs = refl
swap (some c) none rs = refl
swap (some c) (some r) none = refl
swap (some c) (some r) (some rs) = refl

single : (o : Option ℕ) (rs : Cells) → cons? (cons? o (some [])) rs ≡ last_then o rs
unfolding bind last_then
single none rs = refl
single (some c) none = refl
single (some c) (some rs) = refl

cell_none : (o : Option ℕ) → cell_then o none ≡ none
unfolding cell_then
cell_none none = refl
cell_none (some c) = refl

cell_nil : (o : Option ℕ) → cell_then o (some []) ≡ none
unfolding cell_then
cell_nil none = refl
cell_nil (some c) = refl

last_none : (o : Option ℕ) → last_then o none ≡ none
unfolding last_then
last_none none = refl
last_none (some c) = refl

cells_in : Bytes → Cells
cells_in x = bind x (every (every cell_of))

cells_field : (f : List ℕ) (x : Bytes) → cells_in (field_then f x) ≡ cell_then (cell_of f) (cells_in x)
unfolding cells_in field_then every bind
cells_field f none = sym (cell_none (cell_of f))
cells_field f (some []) = sym (cell_nil (cell_of f))
cells_field f (some (r ∷ rs)) = swap (cell_of f) (every cell_of r) (every (every cell_of) rs)

cells_row : (f : List ℕ) (x : Bytes) → cells_in (row_then f x) ≡ last_then (cell_of f) (cells_in x)
unfolding cells_in row_then every bind
cells_row f none = sym (last_none (cell_of f))
cells_row f (some rs) = single (cell_of f) (every (every cell_of) rs)

-- by what ends the first field
next_read : Bool → Bool → Option ℕ → List ℕ → Cells
next_read true q o u = cell_then o (cells_of (drop 1 u))
next_read false true o u = last_then o (cells_of (drop 2 u))
next_read false false o u = none

cells_next : (p q : Bool) (f u : List ℕ) → cells_in (next p q f u) ≡ next_read p q (cell_of f) u
unfolding next next_read cells_of cells_in bind
cells_next true q f u = cells_field f (cut (drop 1 u) false)
cells_next false true f u = cells_row f (cut (drop 2 u) false)
cells_next false false f u = refl

read_next : (t : List ℕ) → 0 < length t → cells_of t ≡ next_read (comma (after t)) (crlf (after t)) (cell_of (up_to t)) (after t)
unfolding cells_of cells_in
read_next t h = ap cells_in (cut_next t h) ∙ cells_next _ _ (up_to t) (after t)

-- ---- what `field` answers, as a step

-- a field has a byte
nil_none : cell_of [] ≡ none
unfolding reading
nil_none = refl

has_byte : (f : List ℕ) (c : ℕ) → cell_of f ≡ some c → 0 < length f
has_byte [] c e = some_ne_none e nil_none
has_byte (b ∷ bs) c e = omega arith

comma_byte : (u : List ℕ) → comma u ≡ true → 0 < length u
unfolding comma
comma_byte [] e = absurd (false≢true e)
comma_byte (b ∷ bs) e = omega arith

crlf_bytes : (u : List ℕ) → crlf u ≡ true → 1 < length u
unfolding crlf
crlf_bytes [] e = absurd (false≢true e)
crlf_bytes (a ∷ []) e = absurd (false≢true e)
crlf_bytes (a ∷ b ∷ bs) e = omega arith

abbrev IsMore : Option ℕ → Bool → ℕ → ℕ → ℕ → Type 0
IsMore o p x c e = (o ≡ some c) × (p ≡ true) × (x ≡ e)

more_is : (o : Option ℕ) (p q : Bool) (x c e : ℕ) → ended o p q x ≡ Some (More c e) → IsMore o p x c e
unfolding ended
more_is none p q x c e g = let z : ◌≡◌ {A = ℕ} 0 1 = cc in absurd (omega arith)
more_is (some d) true q x c e g = (cc, refl, cc)
more_is (some d) false true x c e g = let z : ◌≡◌ {A = ℕ} 0 1 = cc in absurd (omega arith)
more_is (some d) false false x c e g = let z : ◌≡◌ {A = ℕ} 0 1 = cc in absurd (omega arith)

last_is : (o : Option ℕ) (p q : Bool) (x c e : ℕ) → ended o p q x ≡ Some (Last c e) → (o ≡ some c) × (p ≡ false) × (q ≡ true) × (x ≡ e)
unfolding ended
last_is none p q x c e g = let z : ◌≡◌ {A = ℕ} 0 1 = cc in absurd (omega arith)
last_is (some d) true q x c e g = let z : ◌≡◌ {A = ℕ} 0 1 = cc in absurd (omega arith)
last_is (some d) false true x c e g = (cc, refl, refl, cc)
last_is (some d) false false x c e g = let z : ◌≡◌ {A = ℕ} 0 1 = cc in absurd (omega arith)

unread_is : (o : Option ℕ) (p q : Bool) (x : ℕ) (u : List ℕ) → ended o p q x ≡ None → next_read p q o u ≡ none
unfolding ended next_read cell_then last_then
unread_is none true q x u g = refl
unread_is none false true x u g = refl
unread_is none false false x u g = refl
unread_is (some d) true q x u g = let z : ◌≡◌ {A = ℕ} 0 1 = cc in absurd (omega arith)
unread_is (some d) false true x u g = let z : ◌≡◌ {A = ℕ} 0 1 = cc in absurd (omega arith)
unread_is (some d) false false x u g = refl

module _ (s : List ℕ) (at : ℕ) (h : at < length s) where
  some_left : 0 < length (drop at s)
  some_left = rw length-drop (omega arith)

  after_at : (n : ℕ) → drop n (after (drop at s)) ≡ drop (at + length (up_to (drop at s)) + n) s
  unfolding after
  after_at n = rw (drop-drop, drop-drop, add_assoc)

  after_long : length (after (drop at s)) ≡ length s - (at + length (up_to (drop at s)))
  unfolding after
  after_long = rw (drop-drop, length-drop)

  field_ended : field_at (drop at s) at ≡ ended (cell_of (up_to (drop at s))) (comma (after (drop at s))) (crlf (after (drop at s))) (at + length (up_to (drop at s)))
  unfolding field_at after
  field_ended = refl

  pub step_more : (c e : ℕ) → field_at (drop at s) at ≡ Some (More c e)
      → (cells_of (drop at s) ≡ cell_then (some c) (cells_of (drop (e + 1) s))) × (at < e) × (e < length s)
  unfolding next_read
  step_more c e g =
      let i = more_is _ _ _ _ c e (sym field_ended ∙ g) in (
        read_next (drop at s) some_left ∙ rw (i.1, i.0, after_at 1, i.2),
        omega (arith, i.2, has_byte (up_to (drop at s)) c i.0),
        omega (arith, i.2, after_long, comma_byte (after (drop at s)) i.1),
      )

  pub step_last : (c e : ℕ) → field_at (drop at s) at ≡ Some (Last c e)
      → (cells_of (drop at s) ≡ last_then (some c) (cells_of (drop (e + 2) s))) × (at < e) × (e + 1 < length s)
  unfolding next_read
  step_last c e g =
      let i = last_is _ _ _ _ c e (sym field_ended ∙ g) in (
        read_next (drop at s) some_left ∙ rw (i.1, i.2, i.0, after_at 2, i.3),
        omega (arith, i.3, has_byte (up_to (drop at s)) c i.0),
        omega (arith, i.3, after_long, crlf_bytes (after (drop at s)) i.2),
      )

  pub step_unread : field_at (drop at s) at ≡ None → cells_of (drop at s) ≡ none
  step_unread g = read_next (drop at s) some_left ∙ unread_is _ _ _ _ (after (drop at s)) (sym field_ended ∙ g)
