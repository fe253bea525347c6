-- For `operand`, `reused_class` and `class_for`: what is found of an operand: operand k of its instruction, and its class. Assumes nothing.
use mathlib.Core.Path.{◌≡◌, refl, sym, ap, ◌∙◌}
use mathlib.Core.List.{List, [], ◌∷◌}
use mathlib.Core.Option.{Option, none, some, bind}
use Prim.Native.Nat.{ℕ, suc, ◌+◌, ◌-◌, ◌≤◌, ◌<◌}
use native.Mathlib.Nat.{sub-eq-zero_of_le}
use native.Mathlib.Numerals.{add-one}
use native.Mathlib.Omega.{arith}
use lib.ListN.{length, get_or, take, drop, length-drop}
use lib.Seq.{drop-cons, length-take-le, get_or-take, get_or-drop}
use borrow.Author.Tests.{lt-ltb, le-ltb}
use Rattle.laws.proofs.Cases.{by_lt}
use Rattle.laws.proofs.Lists.{get_d_any}
use Rattle.entity.specs.Limits.{inst_limit}
use Rattle.entity.specs.declared.forms.Constraint.{Constraint}
use Rattle.entity.specs.declared.forms.Constraint.TheVariants.{Class, Fixed, Reuse}
use Rattle.entity.specs.declared.numbers.RegClass.{RegClass}
use Rattle.entity.specs.declared.numbers.OperandIndex.{OperandIndex}
use Rattle.rules.specs.Sheet.{Sheet, OpRow}
use Rattle.rules.specs.Accept.{operands_at, operand, class_of, class_for}
use Rattle.table.specs.Layout.{op_index}
use Rattle.table.specs.Sheet.{rows_at, sheet_in}
use Rattle.table.specs.Index.{range_in, Ready, before}
use Rattle.table.specs.View.{op_row, operand_of}
use Rattle.table.specs.declared.index.Range.{Range}
use Rattle.table.specs.declared.view.Operand.{Operand}
use Rattle.table.proofs.Sheets.{long_of, ops_are, rows_long}
use Rattle.table.proofs.Ranges.{before_within}
use Rattle.table.proofs.Lookups.{ops_of_lem}
use Rattle.operands.specs.Operands.{as_row, operand_found, class_found, reused_class}
use Rattle.std.specs.Prelude.{Some, None}
use Rattle.std.specs.Prelude as Code

-- ---- operand k of an instruction

-- the rows of the operands of instruction i, from the first to the last
module _ {t : List ℕ} (g : Ready t) (i : ℕ) (r : Range) (e : r ≡ range_in t op_index inst_limit i) where
  abbrev sh : Sheet
  sh = sheet_in t

  pub within : r.to ≤ length sh.ops
  unfolding range_in
  within =
      rw (long_of (ops_are t))
      (by_lt i inst_limit
      (λ h.
      let q : op_index + i + 1 ≡ op_index + (i + 1) = omega arith in
      let z : r.to ≡ before (i + 1) (rows_at t 10) = ap (λ (x : Range). x.to) e ∙ rw (lt-ltb i inst_limit h, q) (g.built.ops (i + 1) (omega arith)) in
      rw z (omega (arith, before_within (i + 1) (rows_at t 10), rows_long t 10)))
      (λ h. let z : r.to ≡ 0 = ap (λ (x : Range). x.to) e ∙ rw (le-ltb i inst_limit h) in rw z (omega arith)))

  pub rows_are : take (r.to - r.from) (drop r.from sh.ops) ≡ operands_at sh i
  rows_are = rw e (ops_of_lem g i)

  pub row_here : (n : ℕ) → n < r.to → take (r.to - n) (drop n sh.ops) ≡ op_row sh n ∷ take (r.to - (n + 1)) (drop (n + 1) sh.ops)
  row_here n h =
      let w = within in
      let q : r.to - n ≡ suc (r.to - (n + 1)) = omega arith in
      ap (λ (m : ℕ). take m (drop n sh.ops)) q ∙ ap (take (suc (r.to - (n + 1)))) (drop-cons sh.ops n _ (omega arith))
      ∙ ap (λ (m : ℕ). op_row sh n ∷ take (r.to - (n + 1)) (drop m sh.ops)) (sym (add-one n))

  pub rows_past : (n : ℕ) → r.to ≤ n → take (r.to - n) (drop n sh.ops) ≡ []
  rows_past n h = rw (sub-eq-zero_of_le h)

-- operand k of the instruction of o
module _ {t : List ℕ} (g : Ready t) (o : OpRow) (k : ℕ) (r : Range) (e : r ≡ range_in t op_index inst_limit o.at) where
  rows_many : length (operands_at (sheet_in t) o.at) ≡ r.to - r.from
  rows_many = sym (ap length (rows_are g o.at r e)) ∙ length-take-le (r.to - r.from) (drop r.from (sheet_in t).ops) (rw (length-drop r.from (sheet_in t).ops) (omega (arith, within g o.at r e)))

  operand_no : r.to - r.from ≤ k → operand (sheet_in t) o k ≡ none
  unfolding operand
  operand_no h = rw (rows_many, le-ltb k (r.to - r.from) h)

  operand_yes : k < r.to - r.from → operand (sheet_in t) o k ≡ some (op_row (sheet_in t) (r.from + k))
  unfolding operand
  operand_yes h =
      rw (rows_many, lt-ltb k (r.to - r.from) h)
      (ap some
      (ap (λ (l : List OpRow). get_or l k o) (sym (rows_are g o.at r e)) ∙ get_or-take (r.to - r.from) (drop r.from (sheet_in t).ops) k o h ∙ get_or-drop r.from (sheet_in t).ops k o
      ∙ get_d_any (sheet_in t).ops (r.from + k) o _ (omega (arith, within g o.at r e))))

module _ (t : List ℕ) (o : Operand) (k : ℕ) (r : Range) (e : r ≡ range_in t op_index inst_limit o.at.0) where
  pub operand_none : r.to - r.from ≤ k → Ready t → None ≡ operand_found (operand (sheet_in t) (as_row o) k)
  unfolding operand_found as_row
  operand_none h g = rw (operand_no g (as_row o) k r e h)

  pub operand_some : (u : Operand) → k < r.to - r.from → u ≡ operand_of (op_row (sheet_in t) (r.from + k)) → Ready t → Some u ≡ operand_found (operand (sheet_in t) (as_row o) k)
  unfolding operand_found as_row
  operand_some u h q g = rw (operand_yes g (as_row o) k r e h, q)

-- what is found, by the code's answers
pub op_lost : (x : Option OpRow) → None ≡ operand_found x → x ≡ none
unfolding operand_found
op_lost none q = refl
op_lost (some y) q = absurd (let z : ◌≡◌ {A = ℕ} 0 1 = cc in omega arith)

pub op_found : (x : Option OpRow) (u : Operand) → Some u ≡ operand_found x → x ≡ some (as_row u)
unfolding operand_found as_row
op_found none u q = absurd (let z : ◌≡◌ {A = ℕ} 0 1 = cc in omega arith)
op_found (some y) u q = let z : u ≡ operand_of y = cc in ap some (sym (ap as_row z))

pub class_lost : (x : Option ℕ) → None ≡ class_found x → x ≡ none
unfolding class_found
class_lost none q = refl
class_lost (some y) q = absurd (let z : ◌≡◌ {A = ℕ} 0 1 = cc in omega arith)

pub class_found_lem : (x : Option ℕ) (c : RegClass) → Some c ≡ class_found x → x ≡ some c.0
unfolding class_found
class_found_lem none c q = absurd (let z : ◌≡◌ {A = ℕ} 0 1 = cc in omega arith)
class_found_lem (some y) c q = let z : c ≡ record { 0 = y } = cc in ap some (sym (ap (λ (c : RegClass). c.0) z))

module _ {H : Type 0} (sh : Sheet) (o : Operand) (k : ℕ) {f : Code.Option Operand} (e : H → f ≡ operand_found (operand sh (as_row o) k)) where
  pub reused_none : f ≡ None → H → None ≡ class_found (reused_class sh (as_row o) k)
  unfolding reused_class class_found bind
  reused_none q g = rw (op_lost (operand sh (as_row o) k) (sym q ∙ e g))

  pub reused_some : (u : Operand) (x : Code.Option RegClass) → f ≡ Some u → ((sh : Sheet) → x ≡ class_found (class_of sh u.constraint)) → H → x ≡ class_found (reused_class sh (as_row o) k)
  unfolding reused_class as_row bind
  reused_some u x q p g = rw (op_found (operand sh (as_row o) k) u (sym q ∙ e g)) (p sh)

-- ---- the class of an operand

abbrev class_by : Sheet → OpRow → Constraint → Option ℕ
class_by sh o c = elim c [ Class c ↦ some c.0 | Fixed r ↦ none | Reuse k ↦ reused_class sh o k.0 ]

class_by_lem : (sh : Sheet) (o : OpRow) → class_for sh o ≡ class_by sh o o.constraint
unfolding class_for reused_class
class_by_lem sh o = refl

own_class : (sh : Sheet) (o : OpRow) (q : Constraint) → ((k : OperandIndex) → q ≡ Reuse k → ⊥) → class_of sh q ≡ class_by sh o q
unfolding class_of
own_class sh o (Class c) n = refl
own_class sh o (Fixed r) n = refl
own_class sh o (Reuse k) n = absurd (n k refl)

module _ {H : Type 0} (sh : Sheet) (o : Operand) where
  -- no reuse: the class of the constraint
  pub for_own : {x : Code.Option RegClass} → ((k : OperandIndex) → o.constraint ≡ Reuse k → ⊥) → ((sh : Sheet) → x ≡ class_found (class_of sh o.constraint)) → H → x ≡ class_found (class_for sh (as_row o))
  unfolding as_row
  for_own n p g = p sh ∙ ap class_found (own_class sh (as_row o) o.constraint n ∙ sym (class_by_lem sh (as_row o)))

  pub for_reuse : (k : OperandIndex) (x : Code.Option RegClass) → o.constraint ≡ Reuse k → (H → x ≡ class_found (reused_class sh (as_row o) k.0)) → H → x ≡ class_found (class_for sh (as_row o))
  unfolding as_row
  for_reuse k x e p g = p g ∙ sym (ap class_found (class_by_lem sh (as_row o) ∙ ap (class_by sh (as_row o)) e))
