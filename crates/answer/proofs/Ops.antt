-- For `PlaceCell` of table/specs/Written.antt: the place of an operand row of a sheet is a place's cell. Assumes nothing.
use mathlib.Core.Path.{◌≡◌, refl, sym, ◌∙◌}
use mathlib.Core.Bool.{Bool, true, false, ◌&&◌}
use mathlib.Core.List.{List, [], ◌∷◌}
use mathlib.Core.Option.{Option-elim}
use Prim.Native.Nat.{ℕ, ◌<◌}
use native.Mathlib.Omega.{arith}
use lib.Dec.{eqb, ltb, leb}
use lib.ListN.{length, get_or}
use borrow.Author.Tests.{ltb-true, leb-true, eqb-true}
use Rattle.laws.specs.Lists.{all, keep}
use Rattle.laws.proofs.Cases.{by_bool}
use Rattle.rules.proofs.Words.{op_word}
use Rattle.rules.specs.Cells.{word, class_mark, reg_mark}
use Rattle.rules.specs.Rows.{Field, number, dash, place, constraint, only, ◌up_to◌, field_ok, end, ◌▸◌, fits, op_shape, kinds, kind_from, kind, pairs_ok, row_ok, sheet_ok, reading}
use Rattle.rules.specs.Sheet.{field}
use Rattle.table.specs.Rows.{count_in, kind_row}
use Rattle.table.specs.Index.{Ready}
use Rattle.table.proofs.Loops.{and_left, and_right, never, all_at}
use Rattle.table.proofs.Kindred.{count_is, kind_row_is}
use Rattle.table.specs.Written.{PlaceCell}

-- what holds of each holds of those that are kept, with the test
keep_both : {A : Type 0} (p f : A → Bool) (l : List A) → all p l ≡ true → all (λ x. p x && f x) (keep f l) ≡ true
unfolding keep
keep_both p f [] e = refl
keep_both p f (x ∷ l) e =
    let r = keep_both p f l (and_right (p x) (all p l) e) in
    by_bool (f x) (λ t. rw (t, and_left (p x) (all p l) e, t) r) (λ t. rw t r)

-- the fifth of five fields
fifth : (a b c d : Field) (cs : List ℕ) → fits (a ▸ b ▸ c ▸ d ▸ place ▸ end) cs ≡ true → field_ok place (get_or cs 4 0) ≡ true
unfolding fits
fifth a b c d [] e = never e
fifth a b c d (v ∷ []) e = never (and_right (field_ok a v) false e)
fifth a b c d (v ∷ w ∷ []) e = never (and_right (field_ok b w) false (and_right (field_ok a v) (field_ok b w && false) e))
fifth a b c d (v ∷ w ∷ x ∷ []) e = never (and_right (field_ok c x) false (and_right (field_ok b w) _ (and_right (field_ok a v) _ e)))
fifth a b c d (v ∷ w ∷ x ∷ y ∷ []) e = never (and_right (field_ok d y) false (and_right (field_ok c x) _ (and_right (field_ok b w) _ (and_right (field_ok a v) _ e))))
fifth a b c d (v ∷ w ∷ x ∷ y ∷ z ∷ cs) e =
    and_left (field_ok place z) _ (and_right (field_ok d y) _ (and_right (field_ok c x) _ (and_right (field_ok b w) _ (and_right (field_ok a v) _ e))))

op_fits : (cs : List ℕ) → fits op_shape cs ≡ true → field_ok place (get_or cs 4 0) ≡ true
unfolding fits op_shape
op_fits cs e =
    by_bool (fits (number ▸ "def" up_to "earlyg" ▸ number ▸ constraint ▸ place ▸ end) cs)
    (λ t. fifth number ("def" up_to "earlyg") number constraint cs t)
    (λ t. fifth number (only "fixed") dash constraint cs (rw t at e))

op_kind : (cs : List ℕ) → Option-elim (kind_from kinds op_word) false (λ k. fits k.shape cs) ≡ fits op_shape cs
unfolding reading
op_kind cs = refl

op_row : (r : List ℕ) → row_ok r ≡ true → kind r ≡ op_word → field_ok place (field 5 r) ≡ true
unfolding row_ok
op_row [] e q = never e
op_row (c ∷ cs) e q = op_fits cs (sym (op_kind cs) ∙ rw q at e)

rows_ok : (rs : List (List ℕ)) → sheet_ok rs ≡ true → all row_ok rs ≡ true
unfolding sheet_ok
rows_ok [] e = never e
rows_ok (r ∷ rs) e = and_right (eqb (kind r) (word "slots")) (all row_ok (r ∷ rs)) (and_left (eqb (kind r) (word "slots") && all row_ok (r ∷ rs)) (pairs_ok r rs) e)

pub op_place : {t : List ℕ} → Ready t → (n : ℕ) → n < count_in t 10 → PlaceCell (field 5 (kind_row t 10 n))
unfolding field_ok
op_place {t} g n h =
    let f : List ℕ → Bool = λ r. eqb (kind r) op_word in
    let l : List (List ℕ) = keep f g.rows in
    let s : length l ≡ count_in t 10 = sym (count_is g.held 10 (omega arith)) in
    let e = all_at (λ r. row_ok r && f r) [] l (keep_both row_ok f g.rows (rows_ok g.rows g.ok)) n (omega arith) in
    let r : List ℕ = get_or l n [] in
    let p = op_row r (and_left (row_ok r) (f r) e) (eqb-true (kind r) op_word (and_right (row_ok r) (f r) e)) in
    rw (kind_row_is g.held 10 (omega arith) n)
    (leb-true reg_mark (field 5 r) (and_left (leb reg_mark (field 5 r)) (ltb (field 5 r) class_mark) p), ltb-true (field 5 r) class_mark (and_right (leb reg_mark (field 5 r)) (ltb (field 5 r) class_mark) p))
