-- `define_operand`, `define_group` and `define_all` of src/lib.rt: what an operand defines, by its kind, and what a pass takes of it (`taken` of
-- specs/Definitions.antt). Assumes nothing.
use mathlib.Core.Path.{◌≡◌, refl, sym, ap, ◌∙◌}
use mathlib.Core.Bool.{Bool, true, false, cond}
use mathlib.Core.List.{List, [], ◌∷◌, flat_map, zip_with}
use mathlib.Core.Option.{Option, get_or}
use Prim.Native.Nat.{ℕ}
use Rattle.laws.specs.Fold.{run}
use Rattle.std.proofs.Common.{◌⊎◌, inl, inr}
use Rattle.laws.proofs.Cases.{by_bool}
use Rattle.entity.specs.declared.forms.Place.{Place}
use Rattle.entity.specs.declared.forms.Place.TheVariants.{Reg, Slot}
use Rattle.entity.specs.declared.forms.OperandKind.{OperandKind}
use Rattle.entity.specs.declared.forms.OperandKind.TheVariants.{Def, Use, EarlyDef, DefGroup, UseGroup, EarlyDefGroup, NonAllocatable}
use Rattle.entity.specs.declared.numbers.PhysReg.{PhysReg}
use Rattle.entity.specs.declared.numbers.SpillSlot.{SpillSlot}
use Rattle.entity.specs.declared.numbers.RegClass.{RegClass}
use Rattle.entity.specs.declared.numbers.Value.{Value}
use Rattle.entity.specs.declared.numbers.ValueGroup.{ValueGroup}
use Rattle.rules.specs.Sheet.{Sheet, OpRow, is_early, values_of}
use Rattle.rules.specs.Accept.{class_for}
use Rattle.rules.specs.Record.{Record, define}
use Rattle.rules.specs.Forward.{group_regs, members, all_defs, define_all}
use Rattle.table.specs.View.{operand_of}
use Rattle.table.specs.declared.view.Operand.{Operand}
use Rattle.operands.specs.Operands.{as_row, class_found}
use Rattle.std.specs.Prelude.{Some, None}
use Rattle.std.specs.Prelude as Code
use Rattle.operands.proofs.Finding.{class_lost, class_found_lem}
use Rattle.definitions.specs.Definitions.{taken, takes_early, takes_other, at_reg}
use Rattle.definitions.specs.declared.Pass.{Pass}
use Rattle.definitions.specs.declared.Pass.TheVariants.{Early, Other, All}
use Rattle.definitions.proofs.Loops.{run_flat}

-- ---- what a pass takes of an operand

abbrev Defs : Type 0
Defs = List (ℕ × Place)

taken_by : (sh : Sheet) (o : OpRow) (pass : Pass) → taken sh pass o ≡ cond (cond (is_early o.kind) (takes_early pass) (takes_other pass)) (all_defs sh o) []
unfolding taken takes_early takes_other
taken_by sh o Early = by_bool (is_early o.kind) (λ q. rw q) (λ q. rw q)
taken_by sh o Other = by_bool (is_early o.kind) (λ q. rw q) (λ q. rw q)
taken_by sh o All = by_bool (is_early o.kind) (λ q. rw q) (λ q. rw q)

-- whether a pass takes what an operand defines, by the kind of its row
module _ (sh : Sheet) (o : OpRow) (pass : Pass) {k : OperandKind} {early takes : Bool} (e : k ≡ o.kind) (p : early ≡ is_early k) (q : takes ≡ cond early (takes_early pass) (takes_other pass)) where
  taken_if : taken sh pass o ≡ cond takes (all_defs sh o) []
  taken_if = taken_by sh o pass ∙ rw (q, p, e)

  pub takes_none : takes ≡ false → taken sh pass o ≡ []
  takes_none z = taken_if ∙ rw z

  pub takes_all : takes ≡ true → taken sh pass o ≡ all_defs sh o
  takes_all z = taken_if ∙ rw z

-- and what it defines, by its kind
none_by : (sh : Sheet) (o : OpRow) (k : OperandKind) → o.kind ≡ k → ((v : Value) → k ≡ Def v → ⊥) → ((v : Value) → k ≡ EarlyDef v → ⊥) → ((g : ValueGroup) → k ≡ DefGroup g → ⊥) → ((g : ValueGroup) → k ≡ EarlyDefGroup g → ⊥) → all_defs sh o ≡ []
unfolding all_defs
none_by sh o (Def v) e a b c d = absurd (a v refl)
none_by sh o (EarlyDef v) e a b c d = absurd (b v refl)
none_by sh o (DefGroup g) e a b c d = absurd (c g refl)
none_by sh o (EarlyDefGroup g) e a b c d = absurd (d g refl)
none_by sh o (Use v) e a b c d = rw e
none_by sh o (UseGroup g) e a b c d = rw e
none_by sh o NonAllocatable e a b c d = rw e

module _ (sh : Sheet) (o : OpRow) {k : OperandKind} (e : k ≡ o.kind) where
  pub one_def : {v : Value} → (k ≡ Def v) ⊎ (k ≡ EarlyDef v) → all_defs sh o ≡ (v.0, o.place) ∷ []
  unfolding all_defs
  one_def (inl q) = rw (sym e ∙ q)
  one_def (inr q) = rw (sym e ∙ q)

  pub group_defs : {g : ValueGroup} → (k ≡ DefGroup g) ⊎ (k ≡ EarlyDefGroup g) → all_defs sh o ≡ members sh o g.0
  unfolding all_defs
  group_defs (inl q) = rw (sym e ∙ q)
  group_defs (inr q) = rw (sym e ∙ q)

  pub no_defs : ((v : Value) → k ≡ Def v → ⊥) → ((v : Value) → k ≡ EarlyDef v → ⊥) → ((g : ValueGroup) → k ≡ DefGroup g → ⊥) → ((g : ValueGroup) → k ≡ EarlyDefGroup g → ⊥) → all_defs sh o ≡ []
  no_defs = none_by sh o k (sym e)

-- ---- the record, by what is taken

module _ (sh : Sheet) (b : ℕ) (s : Record) {ds : Defs} where
  -- the same definitions by another name
  pub defines_as : {s' : Record} {es : Defs} → es ≡ ds → s' ≡ define_all sh b es s → s' ≡ define_all sh b ds s
  defines_as e p = rw (← e) p

-- all operands of an instruction, one after the other
pub defines_all : (sh : Sheet) (b : ℕ) (h : OpRow → Defs) (s : Record) (l : List OpRow) → run (λ u o. define_all sh b (h o) u) s l ≡ define_all sh b (flat_map h l) s
unfolding define_all
defines_all sh b h s l = run_flat (λ t d. define sh b d.0 d.1 t) h s l

-- ---- the members of a group

-- the class of an operand, or the first
module _ {H : Type 0} (x : Option ℕ) {f : Code.Option RegClass} (e : H → f ≡ class_found x) where
  pub class_there : (c : RegClass) → f ≡ Some c → H → c.0 ≡ get_or x 0
  class_there c q g = rw (class_found_lem x c (sym q ∙ e g))

  pub class_first : f ≡ None → H → 0 ≡ get_or x 0
  class_first q g = rw (class_lost x (sym q ∙ e g))

-- the group that begins with r
pub regs_headed : {H : Type 0} (sh : Sheet) (x r : ℕ) {c : ℕ} {l m : List ℕ} → (H → c ≡ x) → (H → m ≡ group_regs sh c r) → l ≡ m → H → l ≡ group_regs sh x r
regs_headed sh x r p q e h = e ∙ q h ∙ ap (λ (c : ℕ). group_regs sh c r) (p h)

module _ (sh : Sheet) (o : Operand) (g : ℕ) where
  abbrev members_by : Place → Defs
  members_by p = elim p [ Reg r ↦ zip_with at_reg (values_of sh g) (group_regs sh (get_or (class_for sh (as_row o)) 0) r.0) | Slot t ↦ [] ]

  members_by_lem : members sh (as_row o) g ≡ members_by o.place
  unfolding members as_row
  members_by_lem = refl

  pub members_slot : (s : SpillSlot) → o.place ≡ Slot s → members sh (as_row o) g ≡ []
  members_slot s e = members_by_lem ∙ ap members_by e

  pub members_reg : (r : PhysReg) → o.place ≡ Reg r → {vs rs : List ℕ} → vs ≡ values_of sh g → rs ≡ group_regs sh (get_or (class_for sh (as_row o)) 0) r.0 → zip_with at_reg vs rs ≡ members sh (as_row o) g
  members_reg r e p q = rw (p, q) (sym (members_by_lem ∙ ap members_by e))

-- the operand that is read off its row
pub members_row : (sh : Sheet) (o : OpRow) (g : ℕ) {u : Operand} → u ≡ operand_of o → members sh (as_row u) g ≡ members sh o g
unfolding as_row
members_row sh o g e = rw e
