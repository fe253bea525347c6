-- For the passes that walk an instruction's edit and operand rows by number (`edits_at` of rules/specs/Forward.antt): the numbers are those of the range that the index gives.
-- Assumes nothing.
use mathlib.Core.Path.{◌≡◌, refl, ap, ◌∙◌}
use mathlib.Core.Bool.{true}
use mathlib.Core.List.{List, [], ◌∷◌, map, zip, zip_with}
use Prim.Native.Nat.{ℕ, suc, ◌+◌, ◌-◌, ◌≤◌, ◌<◌}
use native.Mathlib.Nat.{zero-add}
use native.Mathlib.Omega.{arith}
use lib.Dec.{eqb}
use lib.ListN.{length, get_or}
use borrow.Author.Tests.{lt-ltb, le-ltb, eq-eqb, ne_eqb}
use Rattle.laws.specs.Lists.{keep, from}
use Rattle.laws.proofs.Cases.{by_bool, by_lt, by_eq}
use Rattle.entity.specs.Limits.{inst_limit}
use Rattle.rules.specs.Rows.{first}
use Rattle.rules.specs.Sheet.{OpRow, EditRow}
use Rattle.rules.specs.Accept.{in_order}
use Rattle.rules.specs.Forward.{edits_at}
use Rattle.table.specs.Layout.{edit_index, op_index}
use Rattle.table.specs.Sheet.{rows_at, sheet_in}
use Rattle.table.specs.Index.{before, range_in, Part, NeverFalls, Ready}
use Rattle.table.proofs.Sheets.{edit_row_of, op_row_of, edits_are, ops_are}
use Rattle.table.proofs.Orders.{ready_ops}
use Rattle.table.proofs.Lookups.{edits_below, ops_below, edits_fall_in}
use Rattle.table.proofs.Ranges.{before_low, before_all}

-- the numbers, from k on, of those of a list at x
abbrev pub numbers_at : {A : Type 0} → (A → ℕ) → ℕ → ℕ → List A → List ℕ
numbers_at {A} at x k l = map (λ (je : ℕ × A). je.0) (keep (λ (je : ℕ × A). eqb (at je.1) x) (zip (from k (length l)) l))

none_at : (x k : ℕ) (rows : List (List ℕ)) → ((j : ℕ) → j < length rows → x < first (get_or rows j [])) → numbers_at first x k rows ≡ []
unfolding keep from zip zip_with
none_at x k [] h = refl
none_at x k (r ∷ rows) h = rw (ne_eqb (first r) x (λ e. omega (arith, h 0 (omega arith)))) (none_at x (suc k) rows (λ j u. h (suc j) (omega arith)))

numbers_at_lem : (x k : ℕ) (rows : List (List ℕ)) → NeverFalls rows → numbers_at first x k rows ≡ from (k + before x rows) (before (x + 1) rows - before x rows)
unfolding keep before from zip zip_with
numbers_at_lem x k [] up = refl
numbers_at_lem x k (r ∷ rows) up =
    let up' : NeverFalls rows = λ i j h l. up (suc i) (suc j) (omega arith) (omega arith) in
    let on : (j : ℕ) → j < length rows → first r ≤ first (get_or rows j []) = λ j u. up 0 (suc j) (omega arith) (omega arith) in
    by_lt (first r) x
    (λ h.
    let m : before (x + 1) rows + 1 - (before x rows + 1) ≡ before (x + 1) rows - before x rows = omega arith in
    let q : suc k + before x rows ≡ k + (before x rows + 1) = omega arith in
    rw (ne_eqb (first r) x (λ e. omega arith), lt-ltb (first r) x h, lt-ltb (first r) (x + 1) (omega arith), m, ← q) (numbers_at_lem x (suc k) rows up'))
    (λ h.
    by_eq (first r) x
    (λ e.
    let z : before x rows ≡ 0 = before_low x rows (λ j u. omega (arith, on j u)) in
    let m : before (x + 1) rows + 1 - 0 ≡ suc (before (x + 1) rows - before x rows) = omega arith in
    let q : suc k + before x rows ≡ suc k = omega arith in
    let p : k + 0 ≡ k = omega arith in
    rw (eq-eqb (first r) x e, le-ltb (first r) x h, lt-ltb (first r) (x + 1) (omega arith), m, p)
    (ap (λ (l : List ℕ). k ∷ l) (numbers_at_lem x (suc k) rows up' ∙ ap (λ (n : ℕ). from n (before (x + 1) rows - before x rows)) q)))
    (λ d.
    rw (ne_eqb (first r) x d, le-ltb (first r) x h, le-ltb (first r) (x + 1) (omega arith)) (none_at x (suc k) rows (λ j u. omega (arith, on j u)))))

-- as read off rows
numbers_of : {A : Type 0} (f : List ℕ → A) (at : A → ℕ) (x k : ℕ) (rows : List (List ℕ)) → ((r : List ℕ) → at (f r) ≡ first r) → numbers_at at x k (map f rows) ≡ numbers_at first x k rows
unfolding keep from zip zip_with
numbers_of f at x k [] e = refl
numbers_of f at x k (r ∷ rows) e =
    by_bool (eqb (first r) x) (λ p. rw (e r, p, numbers_of f at x (suc k) rows e)) (λ p. rw (e r, p, numbers_of f at x (suc k) rows e))

module _ (t : List ℕ) (at k most : ℕ) (part : Part t at k most) (up : NeverFalls (rows_at t k)) (below : (j : ℕ) → j < length (rows_at t k) → first (get_or (rows_at t k) j []) < most) (x : ℕ) where
  numbers_in : numbers_at first x 0 (rows_at t k) ≡ from (range_in t at most x).from ((range_in t at most x).to - (range_in t at most x).from)
  unfolding range_in from
  numbers_in =
      numbers_at_lem x 0 (rows_at t k) up
      ∙ by_lt x most
      (λ h.
      let e : at + x + 1 ≡ at + (x + 1) = omega arith in
      rw (zero-add, lt-ltb x most h, e, part x (omega arith), part (x + 1) (omega arith)))
      (λ h.
      let a = before_all x (rows_at t k) (λ j u. omega (arith, below j u)) in
      let b = before_all (x + 1) (rows_at t k) (λ j u. omega (arith, below j u)) in
      let z : before (x + 1) (rows_at t k) - before x (rows_at t k) ≡ 0 = omega arith in
      rw (le-ltb x most h, z))

-- THE NUMBERS OF AN INSTRUCTION'S EDITS AND OPERANDS
pub edits_at_lem : {t : List ℕ} → Ready t → in_order (sheet_in t).edits ≡ true → (i : ℕ) → edits_at (sheet_in t) i ≡ from (range_in t edit_index inst_limit i).from ((range_in t edit_index inst_limit i).to - (range_in t edit_index inst_limit i).from)
unfolding edits_at
edits_at_lem {t} g o i =
    ap (numbers_at (λ (e : EditRow). e.at) i 0) (edits_are t).is ∙ numbers_of edit_row_of (λ (e : EditRow). e.at) i 0 (rows_at t 12) (λ r. refl)
    ∙ numbers_in t edit_index 12 inst_limit g.built.edits (edits_fall_in g o) (edits_below g) i

pub ops_at : {t : List ℕ} → Ready t → (i : ℕ) → numbers_at (λ (o : OpRow). o.at) i 0 (sheet_in t).ops ≡ from (range_in t op_index inst_limit i).from ((range_in t op_index inst_limit i).to - (range_in t op_index inst_limit i).from)
ops_at {t} g i =
    ap (numbers_at (λ (o : OpRow). o.at) i 0) (ops_are t).is ∙ numbers_of op_row_of (λ (o : OpRow). o.at) i 0 (rows_at t 10) (λ r. refl)
    ∙ numbers_in t op_index 10 inst_limit g.built.ops (ready_ops g) (ops_below g) i
