-- For src/view.rt: the sheet's names (specs/View.antt) for what an accessor reads off row n of its kind. Assumes nothing.
use mathlib.Core.Path.{◌≡◌, refl, sym, ap}
use mathlib.Core.List.{List}
use mathlib.Core.Option.{none}
use Prim.Native.Nat.{ℕ, ◌<◌, ◌≤◌}
use lib.ListN.{get_or, drop}
use borrow.Author.Tests.{ne_eqb}
use Rattle.rules.proofs.Words.{dash_word}
use Rattle.rules.specs.Cells.{word, words, find}
use Rattle.rules.specs.Sheet.{field, flag_of, maybe, place_of, constraint_of, kind_of, units_of, is_memory, class_row, home_of, values_of, block_row}
use Rattle.table.specs.Rows.{count_in, kind_row}
use Rattle.table.specs.Sheet.{sheet_in}
use Rattle.table.specs.View.{group_row, param_row, op_row, edit_row, slot_found, block_found, param_of, operand_of}
use Rattle.std.specs.Prelude.{Some, None}
use Rattle.entity.specs.declared.forms.Place.{Place}
use Rattle.entity.specs.declared.forms.Constraint.{Constraint}
use Rattle.entity.specs.declared.forms.OperandKind.{OperandKind}
use Rattle.table.proofs.Sheets.{part_of, at_of, within_of, past_of, regs_are, classes_are, groups_are, values_are, vgroups_are, blocks_are, params_are, ops_are, edits_are}

module _ (t : List ℕ) (n : ℕ) where
  pub units_are : drop 3 (kind_row t 1 n) ≡ units_of (sheet_in t) n
  units_are = sym (part_of (regs_are t) (λ x. x.units) n _ refl)

  pub memory_is : flag_of (field 2 (kind_row t 1 n)) ≡ is_memory (sheet_in t) n
  unfolding flag_of
  memory_is = sym (part_of (regs_are t) (λ x. x.memory) n _ refl)

  pub members_are : drop 3 (kind_row t 2 n) ≡ (class_row (sheet_in t) n).members
  members_are = sym (part_of (classes_are t) (λ x. x.members) n _ refl)

  pub slots_flag : flag_of (field 2 (kind_row t 2 n)) ≡ (class_row (sheet_in t) n).slots
  unfolding flag_of
  slots_flag = sym (part_of (classes_are t) (λ x. x.slots) n _ refl)

  pub class_is : field 2 (kind_row t 3 n) ≡ (group_row (sheet_in t) n).class
  class_is = sym (part_of (groups_are t) (λ x. x.class) n _ refl)

  pub group_regs_are : drop 3 (kind_row t 3 n) ≡ (group_row (sheet_in t) n).regs
  group_regs_are = sym (part_of (groups_are t) (λ x. x.regs) n _ refl)

  pub group_values_are : drop 2 (kind_row t 5 n) ≡ values_of (sheet_in t) n
  group_values_are = sym (at_of (vgroups_are t) n _ refl)

  pub instructions_are : field 2 (kind_row t 6 n) ≡ (block_row (sheet_in t) n).instructions
  instructions_are = sym (part_of (blocks_are t) (λ x. x.instructions) n _ refl)

  pub entry_is : flag_of (field 4 (kind_row t 6 n)) ≡ (block_row (sheet_in t) n).entry
  unfolding flag_of
  entry_is = sym (part_of (blocks_are t) (λ x. x.entry) n _ refl)

  pub edit_at_is : field 1 (kind_row t 12 n) ≡ (edit_row (sheet_in t) n).at
  edit_at_is = sym (part_of (edits_are t) (λ x. x.at) n _ refl)

  -- home slots and idoms: none past the end, and where the cell is a dash
  module _ {m : ℕ} where
    pub home_past : m ≡ count_in t 4 → m ≤ n → None ≡ slot_found (home_of (sheet_in t) n)
    unfolding slot_found
    home_past e h = rw (past_of (values_are t) n none (rw e at h))

    pub home_is : m ≡ count_in t 4 → n < m → slot_found (maybe (field 2 (kind_row t 4 n))) ≡ slot_found (home_of (sheet_in t) n)
    home_is e h = ap slot_found (sym (within_of (values_are t) n none (rw e at h)))

    pub idom_past : m ≡ count_in t 6 → m ≤ n → None ≡ block_found (block_row (sheet_in t) n).idom
    unfolding block_found
    idom_past e h = rw (past_of (blocks_are t) n _ (rw e at h))

    pub idom_is : m ≡ count_in t 6 → n < m → block_found (maybe (field 3 (kind_row t 6 n))) ≡ block_found (block_row (sheet_in t) n).idom
    idom_is e h = ap (λ x. block_found x.idom) (sym (within_of (blocks_are t) n _ (rw e at h)))

  module _ {r : List ℕ} (e : r ≡ kind_row t 9 n) {a v c : ℕ} {p : Place} (pa : a ≡ get_or r 1 0) (pv : v ≡ get_or r 2 0) (pc : c ≡ get_or r 3 0) (pp : p ≡ place_of c) where
    pub param_is : record { at = record { 0 = a }; value = record { 0 = v }; place = p } ≡ param_of (param_row (sheet_in t) n)
    unfolding place_of
    param_is = rw (pp, pa, pv, pc, e) (sym (part_of (params_are t) param_of n _ refl))

  module _ {r : List ℕ} (e : r ≡ kind_row t 10 n) {a w v x c : ℕ} {k : OperandKind} {q : Constraint} {p : Place}
      (pa : a ≡ get_or r 1 0) (pw : w ≡ get_or r 2 0) (pv : v ≡ get_or r 3 0) (px : x ≡ get_or r 4 0) (pc : c ≡ get_or r 5 0) (pk : k ≡ kind_of w v) (pq : q ≡ constraint_of x) (pp : p ≡ place_of c) where
    pub operand_is : record { at = record { 0 = a }; kind = k; constraint = q; place = p } ≡ operand_of (op_row (sheet_in t) n)
    unfolding place_of constraint_of kind_of word words find
    operand_is = rw (pk, pq, pp, pa, pw, pv, px, pc, e) (sym (part_of (ops_are t) operand_of n _ refl))

-- a cell that may be a dash
pub slot_dash : (c : ℕ) → c ≡ dash_word → None ≡ slot_found (maybe c)
unfolding slot_found maybe word words find
slot_dash c e = rw e

pub slot_some : (c : ℕ) → (c ≡ dash_word → ⊥) → Some (record { 0 = c }) ≡ slot_found (maybe c)
unfolding slot_found maybe word words find
slot_some c e = rw (ne_eqb c dash_word e)

pub block_dash : (c : ℕ) → c ≡ dash_word → None ≡ block_found (maybe c)
unfolding block_found maybe word words find
block_dash c e = rw e

pub block_some : (c : ℕ) → (c ≡ dash_word → ⊥) → Some (record { 0 = c }) ≡ block_found (maybe c)
unfolding block_found maybe word words find
block_some c e = rw (ne_eqb c dash_word e)
