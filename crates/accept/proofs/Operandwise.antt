-- For `src/constraints.rt`: refusal 5 operand by operand, by the code's answers: reuses and groups. Assumes nothing.
use mathlib.Core.Path.{◌≡◌, refl, sym, ap, ◌∙◌}
use mathlib.Core.Bool.{Bool, true, false, ◌&&◌}
use mathlib.Core.List.{List}
use mathlib.Core.Option.{Option-elim}
use Prim.Native.Nat.{ℕ}
use lib.ListN.{length}
use Rattle.std.specs.List.{range_with_len}
use Rattle.laws.specs.Lists.{all, from}
use Rattle.entity.specs.declared.forms.Place.{Place}
use Rattle.entity.specs.declared.forms.Place.TheVariants.{Reg, Slot}
use Rattle.entity.specs.declared.forms.Constraint.{Constraint}
use Rattle.entity.specs.declared.forms.Constraint.TheVariants.{Class, Fixed, Reuse}
use Rattle.entity.specs.declared.numbers.PhysReg.{PhysReg}
use Rattle.entity.specs.declared.numbers.SpillSlot.{SpillSlot}
use Rattle.entity.specs.declared.numbers.RegClass.{RegClass}
use Rattle.rules.specs.Sheet.{Sheet, values_of}
use Rattle.rules.specs.Accept.{same_place, kinds_match, operand, class_of, class_for, reuse_holds, begins_group, group_at, operands_hold}
use Rattle.table.specs.Rows.{count_in}
use Rattle.table.specs.Sheet.{sheet_in}
use Rattle.table.specs.View.{op_row, operand_of}
use Rattle.table.specs.declared.view.Operand.{Operand}
use Rattle.table.proofs.Loops.{all_numbers}
use Rattle.table.proofs.Sheets.{long_of, ops_are}
use Rattle.operands.specs.Operands.{as_row, operand_found, class_found}
use Rattle.operands.proofs.Finding.{op_lost, op_found, class_lost, class_found_lem}
use Rattle.accept.proofs.Ranges.{range_from}
use Rattle.accept.specs.Operands.{is_class, reuses, operand_holds}
use Rattle.std.specs.Prelude.{Some, None}
use Rattle.std.specs.Prelude as Code

-- ---- operand k of an instruction

module _ {H : Type 0} (sh : Sheet) (o : Operand) (k : ℕ) {f : Code.Option Operand} (e : H → f ≡ operand_found (operand sh (as_row o) k)) where
  pub reuses_none : f ≡ None → H → false ≡ reuses sh (as_row o) k
  unfolding reuses Option-elim
  reuses_none q g = rw (op_lost (operand sh (as_row o) k) (sym q ∙ e g))

  pub reuses_some : (u : Operand) (x : Bool) → f ≡ Some u → ((sh : Sheet) → x ≡ reuse_holds sh (as_row o) (as_row u)) → H → x ≡ reuses sh (as_row o) k
  unfolding reuses Option-elim
  reuses_some u x q p g = rw (op_found (operand sh (as_row o) k) u (sym q ∙ e g)) (p sh)

-- ---- a constraint

module _ (o u : Operand) where
  class_is : (sh : Sheet) (c : Constraint) → Option-elim (class_of sh c) false (λ c. true) ≡ is_class c
  unfolding class_of is_class Option-elim
  class_is sh (Class c) = refl
  class_is sh (Fixed r) = refl
  class_is sh (Reuse k) = refl

  pub reuse_is : (sh : Sheet) → reuse_holds sh (as_row o) (as_row u) ≡ (kinds_match o.kind u.kind && is_class u.constraint && same_place u.place o.place)
  unfolding reuse_holds as_row
  reuse_is sh = rw (class_is sh u.constraint)

-- ---- groups

module _ (sh : Sheet) (o : Operand) (v : ℕ) where
  abbrev group_by : Place → Bool
  group_by p = elim p [ Reg r ↦ Option-elim (class_for sh (as_row o)) false (λ c. begins_group sh c r.0 (length (values_of sh v))) | Slot s ↦ false ]

  group_by_lem : group_at sh (as_row o) v ≡ group_by o.place
  unfolding group_at as_row
  group_by_lem = refl

module _ {H : Type 0} (sh : Sheet) (o : Operand) (v : ℕ) where
  pub group_slot : (s : SpillSlot) → o.place ≡ Slot s → H → false ≡ group_at sh (as_row o) v
  group_slot s e g = sym (group_by_lem sh o v ∙ ap (group_by sh o v) e)

  module _ (r : PhysReg) (e : o.place ≡ Reg r) {f : Code.Option RegClass} (q : H → f ≡ class_found (class_for sh (as_row o))) where
    pub group_classless : f ≡ None → H → false ≡ group_at sh (as_row o) v
    unfolding Option-elim
    group_classless z g = sym (group_by_lem sh o v ∙ ap (group_by sh o v) e ∙ rw (class_lost (class_for sh (as_row o)) (sym z ∙ q g)))

    pub group_classed : (c : RegClass) (l : List ℕ) (x : Bool) → f ≡ Some c → l ≡ values_of sh v → x ≡ begins_group sh c.0 r.0 (length l) → H → x ≡ group_at sh (as_row o) v
    unfolding Option-elim
    group_classed c l x z m p g =
        p ∙ ap (λ (l : List ℕ). begins_group sh c.0 r.0 (length l)) m ∙ sym (group_by_lem sh o v ∙ ap (group_by sh o v) e ∙ rw (class_found_lem (class_for sh (as_row o)) c (sym z ∙ q g)))

-- REFUSAL 5
pub ops_all : (t : List ℕ) {m : ℕ} → m ≡ count_in t 10 → all (λ j. operand_holds (sheet_in t) (op_row (sheet_in t) j)) (range_with_len 0 m) ≡ operands_hold (sheet_in t)
unfolding operands_hold operand_holds
ops_all t {m} e =
    ap (all (λ j. operand_holds (sheet_in t) (op_row (sheet_in t) j))) (range_from 0 m ∙ ap (from 0) (e ∙ sym (long_of (ops_are t))))
    ∙ sym (all_numbers (operand_holds (sheet_in t)) _ (sheet_in t).ops)

pub row_held : (sh : Sheet) (n : ℕ) (o : Operand) (x : Bool) → o ≡ operand_of (op_row sh n) → x ≡ operand_holds sh (as_row o) → x ≡ operand_holds sh (op_row sh n)
unfolding as_row
row_held sh n o x e p = p ∙ ap (λ (o : Operand). operand_holds sh (as_row o)) e
