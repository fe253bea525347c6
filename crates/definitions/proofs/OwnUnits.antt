-- `add_place`, `add_members`, `add_group` and `add_operand` of src/lib.rt: the units that an operand defines, added to a set. Assumes nothing.
use mathlib.Core.Path.{◌≡◌, sym, ap, ◌∙◌}
use mathlib.Core.List.{List, [], ◌∷◌, ◌++◌, flat_map, zip_with, append-nil}
use Prim.Native.Nat.{ℕ}
use Rattle.std.proofs.Common.{◌⊎◌, inl, inr}
use Rattle.bits.specs.declared.sets.NumberSet.{NumberSet}
use Rattle.entity.specs.declared.forms.Place.{Place}
use Rattle.entity.specs.declared.forms.Place.TheVariants.{Reg, Slot}
use Rattle.entity.specs.declared.forms.OperandKind.{OperandKind}
use Rattle.entity.specs.declared.forms.OperandKind.TheVariants.{Def, EarlyDef}
use Rattle.entity.specs.declared.numbers.PhysReg.{PhysReg}
use Rattle.entity.specs.declared.numbers.Value.{Value}
use Rattle.entity.specs.declared.numbers.SpillSlot.{SpillSlot}
use Rattle.rules.specs.Sheet.{Sheet, OpRow, units_of}
use Rattle.rules.specs.Forward.{all_defs, place_units}
use Rattle.definitions.specs.Definitions.{at_reg, units_at, With}
use Rattle.definitions.proofs.Defining.{one_def}
use Rattle.definitions.proofs.Loops.{with_none, with_as, zip_more}

module _ (sh : Sheet) where
  -- a place
  pub in_reg : {s s' : NumberSet} {p : Place} (r : PhysReg) → p ≡ Reg r → With s (units_of sh r.0) s' → With s (place_units sh p) s'
  unfolding place_units
  in_reg r e w = rw e w

  pub in_slot : (s : NumberSet) {p : Place} (t : SpillSlot) → p ≡ Slot t → With s (place_units sh p) s
  unfolding place_units
  in_slot s t e = rw e (with_none s)

  -- one value at a register after the other
  pub units_more : {vs rs vs' rs' : List ℕ} {v r : ℕ} → (vs ≡ v ∷ vs') × (rs ≡ r ∷ rs') → units_at sh (zip_with at_reg vs rs) ≡ units_of sh r ++ units_at sh (zip_with at_reg vs' rs')
  unfolding flat_map place_units
  units_more e = ap (units_at sh) (zip_more at_reg e)

  pub units_none : {ds : List (ℕ × Place)} → ds ≡ [] → units_at sh ds ≡ []
  unfolding flat_map
  units_none e = ap (units_at sh) e

  one_place : (o : OpRow) {k : OperandKind} → k ≡ o.kind → ((v : Value) × (k ≡ Def v)) ⊎ ((v : Value) × (k ≡ EarlyDef v)) → units_at sh (all_defs sh o) ≡ place_units sh o.place
  unfolding flat_map
  one_place o e (inl (v, q)) = ap (units_at sh) (one_def sh o e (inl q)) ∙ append-nil (place_units sh o.place)
  one_place o e (inr (v, q)) = ap (units_at sh) (one_def sh o e (inr q)) ∙ append-nil (place_units sh o.place)

  -- an operand, by what it defines
  module _ (o : OpRow) {s : NumberSet} {H : Type 0} where
    pub adds_none : all_defs sh o ≡ [] → H → With s (units_at sh (all_defs sh o)) s
    adds_none e g = with_as (sym (units_none e)) (with_none s)

    pub adds_one : {s' : NumberSet} {k : OperandKind} {p : Place} → k ≡ o.kind → ((v : Value) × (k ≡ Def v)) ⊎ ((v : Value) × (k ≡ EarlyDef v)) → p ≡ o.place → With s (place_units sh p) s' → H → With s (units_at sh (all_defs sh o)) s'
    adds_one e q z w g = with_as (ap (place_units sh) z ∙ sym (one_place o e q)) w

    pub adds_group : {s' : NumberSet} {ms es : List (ℕ × Place)} → all_defs sh o ≡ es → ms ≡ es → (H → With s (units_at sh ms) s') → H → With s (units_at sh (all_defs sh o)) s'
    adds_group e q w g = with_as (ap (units_at sh) (q ∙ sym e)) (w g)
