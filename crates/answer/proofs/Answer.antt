-- For `render` of src/rows.rt: what is written is the answer (`output` of rules/specs/Answer.antt), and how long that is. Assumes nothing.
use mathlib.Core.Path.{◌≡◌, refl, sym, ap, ap₂, ◌∙◌}
use mathlib.Core.List.{List, [], ◌∷◌, map, flat_map, zip, map-map}
use Prim.Native.Nat.{ℕ, ◌≤◌, ◌<◌}
use native.Mathlib.Omega.{arith}
use lib.ListN.{length, get_or, take}
use lib.Seq.{ext_get_or, length-take-le, get_or-take}
use Rattle.laws.specs.Lists.{from}
use Rattle.laws.proofs.Lists.{flat_map_lem}
use Rattle.entity.specs.declared.forms.Edit.{Edit}
use Rattle.rules.specs.Text.{bytes}
use Rattle.rules.specs.Cells.{digits_of, field_of, words, word, find}
use Rattle.rules.specs.Rows.{line_of, row_text}
use Rattle.rules.specs.Sheet.{EditRow, field}
use Rattle.rules.specs.Forward.{Walk}
use Rattle.rules.specs.Answer.{edit_text, count_text, output}
use Rattle.table.specs.Rows.{count_in, kind_row}
use Rattle.table.specs.Sheet.{rows_at, sheet_in}
use Rattle.table.specs.Index.{Ready}
use Rattle.table.specs.Edits.{edit_in, edits_in}
use Rattle.table.proofs.Sheets.{edit_row_of, edits_are, long_of, members_long, members_at}
use Rattle.answer.specs.Text.{over, Laid}
use Rattle.answer.specs.declared.text.Writer.{Writer}
use Rattle.answer.specs.Rows.{edit_at, count_line, rendered, answer_most, Stands}
use Rattle.table.specs.Written.{EditCells}
use Rattle.answer.proofs.Laying.{laid_as}
use Rattle.answer.proofs.Cells.{field_number, edit_text_lem}
use Rattle.answer.proofs.Runs.{flat_within}
use Rattle.answer.proofs.Folds.{folds_are}
use Rattle.answer.proofs.Few.{Narrow, at_is, at_below, answer_few, most_few}

-- ---- lists

zip_maps : {A B C : Type 0} (f : A → B) (g : A → C) (l : List A) → zip (map f l) (map g l) ≡ map (λ x. (f x, g x)) l
unfolding zip
zip_maps f g [] = refl
zip_maps f g (x ∷ l) = ap (λ (r : _). (f x, g x) ∷ r) (zip_maps f g l)

take_members : (n : ℕ) (l : List ℕ) → n ≤ length l → take n l ≡ map (λ k. get_or l k 0) (from 0 n)
take_members n l h =
    let f : ℕ → ℕ = λ k. get_or l k 0 in
    let s : length (take n l) ≡ n = length-take-le n l h in
    ext_get_or 0 (take n l) (map f (from 0 n)) (s ∙ sym (members_long f n)) (λ i u. let v : i < n = omega arith in get_or-take n l i 0 v ∙ sym (members_at f n i 0 v))

-- ---- the rows

edit_word_lem : field_of (word "edit") ≡ bytes "edit"
unfolding field_of word words find bytes
edit_word_lem = refl

module _ {t : List ℕ} (g : Ready t) (edits : List ℕ) where
  abbrev at : ℕ → ℕ
  at n = field 1 (kind_row t 12 n)

  abbrev count : ℕ
  count = count_in t 12

  -- an edit row
  edit_is : (n : ℕ) → n < count → EditCells edits n → edit_text (at n) (edit_in edits n) ≡ edit_at t edits n
  unfolding edit_text edit_at row_text
  edit_is n h x =
      rw (edit_word_lem, field_number (at n) (omega (arith, at_below g n h)), at_is t n, edit_text_lem (edit_in edits n) x.small x.value, x.kept)

  ats_are : map (λ (e : EditRow). e.at) (sheet_in t).edits ≡ map at (from 0 count)
  unfolding rows_at
  ats_are =
      ap (map (λ (e : EditRow). e.at)) (edits_are t).is ∙ map-map (λ (e : EditRow). e.at) edit_row_of (rows_at t 12) ∙ map-map (field 1) (kind_row t 12) (from 0 count)

  pub edits_written : (es : List Edit) → es ≡ edits_in edits (length (sheet_in t).edits) → ((n : ℕ) → n < length (sheet_in t).edits → EditCells edits n)
      → flat_map (λ (x : ℕ × Edit). edit_text x.0 x.1) (zip (map (λ (e : EditRow). e.at) (sheet_in t).edits) es) ≡ flat_map (edit_at t edits) (from 0 count)
  unfolding edits_in
  edits_written es e ok =
      let l : List ℕ = from 0 count in
      let m : length (sheet_in t).edits ≡ count = long_of (edits_are t) in
      let f : ℕ × Edit → List ℕ = λ x. edit_text x.0 x.1 in
      ap₂ (λ (a : List ℕ) (b : List Edit). flat_map f (zip a b)) ats_are (e ∙ ap (edits_in edits) m)
      ∙ ap (flat_map f) (zip_maps at (edit_in edits) l) ∙ flat_map_lem f (λ n. (at n, edit_in edits n)) l
      ∙ flat_within (λ n. edit_text (at n) (edit_in edits n)) (edit_at t edits) 0 count (λ n u v. edit_is n (omega arith) (ok n (omega arith)))

counts_written : (cs counts : List ℕ) → cs ≡ take 9 counts → 9 ≤ length counts → count_text cs ≡ count_line counts
unfolding count_text count_line
counts_written cs counts e h =
    ap (λ (l : List ℕ). line_of (bytes "count" ∷ map digits_of l)) (e ∙ take_members 9 counts h)
    ∙ ap (λ (l : List (List ℕ)). line_of (bytes "count" ∷ l)) (map-map digits_of (λ k. get_or counts k 0) (from 0 9))

-- WHAT IS WRITTEN IS THE ANSWER
pub answer_is : {t edits places counts : List ℕ} {w : Walk} → Stands t edits places counts w → rendered t edits places counts ≡ output (sheet_in t) w
unfolding rendered output
answer_is {t} {edits} {places} {counts} {w} x =
    sym (rw (folds_are x.ready w places x.in_cells.is_places x.in_cells.place_cells, edits_written x.ready edits w.edits x.in_cells.is_edits x.in_cells.cells_of_edits, counts_written w.counts counts x.is_counts x.enough))

-- how long it is at most
pub answer_most_lem : {t edits places counts : List ℕ} {w : Walk} → Stands t edits places counts w → Narrow counts → length (output (sheet_in t) w) ≤ answer_most t
answer_most_lem x c = rw (answer_is x) at (answer_few x c)

-- and where it lies
module _ (t edits places counts : List ℕ) {old new : Writer} where
  pub answered : Narrow counts → old.at ≡ 0 → Laid (rendered t edits places counts) old new → (w : Walk) → Stands t edits places counts w
      → (new.at ≡ length (output (sheet_in t) w)) × (new.out.now ≡ over old.out.now 0 (output (sheet_in t) w))
  answered c z l w x =
      let text : List ℕ = output (sheet_in t) w in
      let b : length text ≤ 18446744073709551615 = omega (arith, answer_most_lem x c, most_few x) in
      let y = (laid_as (answer_is x) l).laid (omega arith) in
      (omega (arith, y.1), y.0 ∙ ap (λ (i : ℕ). over old.out.now i text) z)
