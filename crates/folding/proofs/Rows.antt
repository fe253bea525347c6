-- An instruction's operands, as the rule `indexed` lists them, are the rows of the range that the index gives: for `fold_all` of src/lib.rt.
-- Assumes nothing.
use mathlib.Core.Path.{◌≡◌, refl, sym, ap, ap₂, ◌∙◌}
use mathlib.Core.Bool.{Bool, true}
use mathlib.Core.List.{List, [], ◌∷◌, map, map-map, map-id, zip, zip_with}
use Prim.Native.Nat.{ℕ, zero, suc, ◌+◌, ◌-◌, ◌≤◌, ◌<◌}
use native.Mathlib.Nat.{zero-add, add-zero}
use native.Mathlib.Omega.{arith}
use lib.Dec.{eqb}
use lib.ListN.{length, get_or, length-map}
use borrow.Author.Tests.{eqb-true}
use Rattle.laws.specs.Lists.{keep, from}
use Rattle.laws.proofs.Cases.{by_bool}
use Rattle.laws.proofs.Lists.{zipped, from_long}
use Rattle.entity.specs.Limits.{operand_limit, inst_limit}
use Rattle.entity.specs.declared.forms.Place.TheVariants.{Reg}
use Rattle.entity.specs.declared.forms.Constraint.TheVariants.{Class}
use Rattle.entity.specs.declared.forms.OperandKind.TheVariants.{NonAllocatable}
use Rattle.rules.specs.Sheet.{Sheet, OpRow}
use Rattle.rules.specs.Accept.{operands_at}
use Rattle.rules.specs.Forward.{indexed}
use Rattle.rules.proofs.Refusals.{in_limits}
use Rattle.table.specs.Layout.{op_index}
use Rattle.table.specs.Sheet.{sheet_in}
use Rattle.table.specs.Index.{Ready, range_in}
use Rattle.table.specs.View.{op_row}
use Rattle.table.specs.declared.index.Range.{Range}
use Rattle.table.proofs.Beginnings.{from_at}
use Rattle.table.proofs.Loops.{keep_map}
use Rattle.table.proofs.Numbered.{ops_at}

-- ---- lists with their numbers

keep_second : {A : Type 0} (p : A → Bool) (a : ℕ) (l : List A) → keep p l ≡ map (λ (jo : ℕ × A). jo.1) (keep (λ (jo : ℕ × A). p jo.1) (zip (from a (length l)) l))
unfolding keep from zip zip_with
keep_second p a [] = refl
keep_second p a (x ∷ l) = by_bool (p x) (λ e. rw (e, keep_second p (suc a) l)) (λ e. rw (e, keep_second p (suc a) l))

counted : {A B : Type 0} (h : ℕ → A → B) (g : ℕ → A) (f : ℕ → B) (c k m : ℕ) → ((j : ℕ) → j < c → h (k + j) (g (m + j)) ≡ f (m + j)) → zip_with h (from k c) (map g (from m c)) ≡ map f (from m c)
unfolding from zip_with
counted h g f zero k m e = refl
counted h g f (suc c) k m e =
    let z : k + 0 ≡ k = add-zero k in
    let y : m + 0 ≡ m = add-zero m in
    ap₂ (λ (y : _) (r : _). y ∷ r) (rw (z, y) at (e 0 (omega arith)))
    (counted h g f c (suc k) (suc m) (λ j u.
    let s : suc k + j ≡ k + suc j = omega arith in
    let r : suc m + j ≡ m + suc j = omega arith in
    rw (s, r) (e (suc j) (omega arith))))

kept_first : (p : ℕ → Bool) (x : ℕ) (l : List ℕ) → p x ≡ true → ((j : ℕ) → j < length l → p (get_or l j 0) ≡ true) → (j : ℕ) → j < length (x ∷ l) → p (get_or (x ∷ l) j 0) ≡ true
kept_first p x l e q zero h = e
kept_first p x l e q (suc j) h = q j (omega arith)

kept_at : (p : ℕ → Bool) (l : List ℕ) (j : ℕ) → j < length (keep p l) → p (get_or (keep p l) j 0) ≡ true
unfolding keep
kept_at p [] j h = absurd (omega arith)
kept_at p (x ∷ l) j h = by_bool (p x) (λ e. rw e (kept_first p x (keep p l) e (kept_at p l) j (rw e at h))) (λ e. rw e (kept_at p l j (rw e at h)))

keep_short : (p : ℕ → Bool) (l : List ℕ) → length (keep p l) ≤ length l
unfolding keep
keep_short p [] = omega arith
keep_short p (x ∷ l) = by_bool (p x) (λ e. rw e (omega (arith, keep_short p l))) (λ e. rw e (omega (arith, keep_short p l)))

-- ---- the rows of instruction i

module _ {t : List ℕ} (g : Ready t) (i : ℕ) where
  abbrev sh : Sheet
  sh = sheet_in t

  abbrev rows : Range
  rows = range_in t op_index inst_limit i

  abbrev lo : ℕ
  lo = rows.from

  abbrev many : ℕ
  many = rows.to - rows.from

  abbrev with : ℕ → ℕ × OpRow
  with n = (n, op_row sh n)

  abbrev here : ℕ × OpRow → Bool
  here jo = eqb jo.1.at i

  all_zipped : zip (from 0 (length sh.ops)) sh.ops ≡ map with (from 0 (length sh.ops))
  all_zipped = zipped with (record { at = 0; kind = NonAllocatable; constraint = Class (record { 0 = 0 }); place = Reg (record { 0 = 0 }) }) 0 sh.ops (λ j u. rw (zero-add j))

  numbers : keep (λ n. eqb (op_row sh n).at i) (from 0 (length sh.ops)) ≡ from lo many
  numbers =
      sym (ap (λ (l : List (ℕ × OpRow)). map (λ (jo : ℕ × OpRow). jo.0) (keep here l)) all_zipped
      ∙ ap (map (λ (jo : ℕ × OpRow). jo.0)) (keep_map with here (from 0 (length sh.ops)))
      ∙ map-map (λ (jo : ℕ × OpRow). jo.0) with (keep (λ n. eqb (op_row sh n).at i) (from 0 (length sh.ops))) ∙ map-id _)
      ∙ ops_at g i

  of_inst : keep here (zip (from 0 (length sh.ops)) sh.ops) ≡ map with (from lo many)
  of_inst = ap (keep here) all_zipped ∙ keep_map with here (from 0 (length sh.ops)) ∙ ap (map with) numbers

  pub operands_are : operands_at sh i ≡ map (op_row sh) (from lo many)
  unfolding operands_at
  operands_are =
      keep_second (λ (o : OpRow). eqb o.at i) 0 sh.ops ∙ ap (map (λ (jo : ℕ × OpRow). jo.1)) of_inst ∙ map-map (λ (jo : ℕ × OpRow). jo.1) with (from lo many)

  pub indexed_are : indexed sh i ≡ map (λ n. (n - lo, n, op_row sh n)) (from lo many)
  unfolding indexed
  indexed_are =
      let h : ℕ → ℕ × OpRow → ℕ × ℕ × OpRow = λ k jo. (k, jo.0, jo.1) in
      ap (λ (l : List (ℕ × OpRow)). zip_with h (from 0 (length l)) l) of_inst
      ∙ ap (λ (m : ℕ). zip_with h (from 0 m) (map with (from lo many))) (length-map (from lo many) with ∙ from_long lo many)
      ∙ counted h with (λ n. (n - lo, n, op_row sh n)) many 0 lo
      (λ j u. let z : lo + j - lo ≡ 0 + j = omega arith in rw z)

  pub row_at : (n : ℕ) → lo ≤ n → n < rows.to → (op_row sh n).at ≡ i
  row_at n a b =
      let m : n - lo < many = omega arith in
      let k : n - lo < length (keep (λ n. eqb (op_row sh n).at i) (from 0 (length sh.ops))) = rw numbers (rw (from_long lo many) m) in
      let y : lo + (n - lo) ≡ n = omega arith in
      let z = kept_at (λ n. eqb (op_row sh n).at i) (from 0 (length sh.ops)) (n - lo) k in
      eqb-true (op_row sh n).at i (rw (numbers, from_at lo many (n - lo) m, y) at z)

  pub few_rows : rows.to - rows.from ≤ operand_limit
  few_rows =
      let k = ap length numbers ∙ from_long lo many in
      omega (arith, k, keep_short (λ n. eqb (op_row sh n).at i) (from 0 (length sh.ops)), from_long 0 (length sh.ops), (in_limits sh g.limits).few_ops)
