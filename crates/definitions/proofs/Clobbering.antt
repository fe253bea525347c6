-- `clobber` and `forget_others` of src/lib.rt: clobbered units, tested by the set of those that the instruction itself defines. Assumes nothing.
use mathlib.Core.Path.{◌≡◌, refl, sym, ap, ◌∙◌}
use mathlib.Core.Bool.{Bool, true, false, not, and-false}
use mathlib.Core.List.{List, [], ◌∷◌, ◌++◌, flat_map}
use Prim.Native.Nat.{ℕ, ◌+◌, ◌≤◌, ◌<◌}
use native.Mathlib.Numerals.{add-one}
use native.Mathlib.Omega.{arith}
use lib.Dec.{eqb, ltb}
use lib.ListN.{length, get_or, drop, drop_of_length-le}
use lib.Seq.{drop-cons}
use borrow.Author.Tests.{eqb-true, ltb-true}
use Rattle.laws.specs.Fold.{run}
use Rattle.laws.specs.Lists.{all, keep, is_in}
use Rattle.laws.proofs.Cases.{by_bool}
use Rattle.bits.specs.Sets.{has}
use Rattle.bits.specs.declared.sets.NumberSet.{NumberSet}
use Rattle.entity.specs.Limits.{unit_limit}
use Rattle.rules.specs.Sheet.{Sheet, ListRow, clobbers_of, list_at}
use Rattle.rules.specs.Accept.{within_limits, units_within}
use Rattle.rules.specs.Record.{Record, forget_unit}
use Rattle.rules.specs.Forward.{clobber}
use Rattle.table.specs.Sheet.{sheet_in}
use Rattle.table.specs.Index.{Ready}
use Rattle.table.proofs.Loops.{and_left, and_right, never}
use Rattle.definitions.specs.Definitions.{own_units, Only}
use Rattle.definitions.proofs.Loops.{rest_next}

-- ---- one by one

module _ (p : ℕ → Bool) (us : List ℕ) (k : ℕ) where
  pub keep_here : k < length us → p (get_or us k 0) ≡ true → keep p (drop k us) ≡ get_or us k 0 ∷ keep p (drop (k + 1) us)
  unfolding keep
  keep_here h e = rw (drop-cons us k 0 h, e, add-one k)

  pub keep_over : k < length us → p (get_or us k 0) ≡ false → keep p (drop k us) ≡ keep p (drop (k + 1) us)
  unfolding keep
  keep_over h e = rw (drop-cons us k 0 h, e, add-one k)

  pub keep_past : length us ≤ k → keep p (drop k us) ≡ []
  unfolding keep
  keep_past h = rw (drop_of_length-le us h)

-- ---- the set says what the list says, of units that are within the limit

keep_on : (p q : ℕ → Bool) → ((u : ℕ) → u < unit_limit → p u ≡ q u) → (us : List ℕ) → units_within us ≡ true → keep p us ≡ keep q us
unfolding keep units_within
keep_on p q h [] e = refl
keep_on p q h (u ∷ us) e =
    rw (h u (ltb-true u unit_limit (and_left (ltb u unit_limit) (units_within us) e)), keep_on p q h us (and_right (ltb u unit_limit) (units_within us) e))

within_append : (xs ys : List ℕ) → units_within xs ≡ true → units_within ys ≡ true → units_within (xs ++ ys) ≡ true
unfolding units_within
within_append [] ys p q = q
within_append (x ∷ xs) ys p q = rw (and_left (ltb x unit_limit) (units_within xs) p) (within_append xs ys (and_right (ltb x unit_limit) (units_within xs) p) q)

within_flat : (p : ListRow → Bool) (l : List ListRow) → all (λ c. units_within c.list) l ≡ true → units_within (flat_map (λ r. r.list) (keep p l)) ≡ true
unfolding keep flat_map units_within
within_flat p [] e = refl
within_flat p (x ∷ l) e =
    let z = within_flat p l (and_right (units_within x.list) (all (λ c. units_within c.list) l) e) in
    by_bool (p x) (λ q. rw q (within_append x.list _ (and_left (units_within x.list) (all (λ c. units_within c.list) l) e) z)) (λ q. rw q z)

clobbers_within : (sh : Sheet) (i : ℕ) → within_limits sh ≡ true → units_within (clobbers_of sh i) ≡ true
unfolding within_limits list_at
clobbers_within sh i e =
    within_flat (λ r. eqb r.at i) sh.clobs
    (by_bool (all (λ c. units_within c.list) sh.clobs) (λ p. p) (λ p. let z : false ≡ true = simp (p, and-false) at e in never z))

no_length : (l : List ℕ) → length l ≡ 0 → l ≡ []
no_length [] e = refl
no_length (x ∷ l) e = absurd (omega arith)

module _ (t : List ℕ) (i : ℕ) {us : List ℕ} (g : Ready t) (e : us ≡ clobbers_of (sheet_in t) i) (s : Record) where
  pub clobbers_none : {x : Bool} → x ≡ eqb (length us) 0 → x ≡ true → s ≡ clobber (sheet_in t) i s
  unfolding clobber run keep
  clobbers_none p z = let q : clobbers_of (sheet_in t) i ≡ [] = sym e ∙ no_length us (eqb-true (length us) 0 (sym p ∙ z)) in rw q

  pub clobbered : {s' : Record} {own : NumberSet} → Only own (own_units (sheet_in t) i) → s' ≡ run forget_unit s (keep (λ u. not (has own u)) us) → s' ≡ clobber (sheet_in t) i s
  unfolding clobber
  clobbered {own = own} o p =
      p
      ∙ ap (λ (vs : List ℕ). run forget_unit s (keep (λ u. not (has own u)) vs)) e
      ∙ ap (run forget_unit s)
      (keep_on (λ u. not (has own u)) (λ u. not (is_in u (own_units (sheet_in t) i))) (λ u h. ap not (o.each u (omega arith))) (clobbers_of (sheet_in t) i) (clobbers_within (sheet_in t) i g.limits))

-- ---- a turn: the unit is forgotten where the set does not have it

module _ (own : NumberSet) (us : List ℕ) (k : ℕ) (s : Record) {s' e : Record} (h : k < length us) {x : Bool} (p : x ≡ has own (get_or us k 0))
    (inv : run forget_unit s (keep (λ u. not (has own u)) (drop k us)) ≡ e) where
  pub turn_forgets : not x ≡ true → s' ≡ forget_unit s (get_or us k 0) → run forget_unit s' (keep (λ u. not (has own u)) (drop (k + 1) us)) ≡ e
  turn_forgets n q = rest_next forget_unit (keep_here (λ u. not (has own u)) us k h (ap not (sym p) ∙ n)) inv q

  pub turn_keeps : not x ≡ false → s' ≡ s → run forget_unit s' (keep (λ u. not (has own u)) (drop (k + 1) us)) ≡ e
  turn_keeps n q = rw (q, ← keep_over (λ u. not (has own u)) us k h (ap not (sym p) ∙ n)) inv
