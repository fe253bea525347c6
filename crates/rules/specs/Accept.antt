-- Document 01, "The call" and "What is accepted", and document 02, request 1: refusals 2 to 6 and 9 to 12, a Bool for each rule, true where the sheet
-- keeps it; of a rule of one block, true where the block keeps it, and the lowest that does not.
use Rattle.std.specs.Prelude.{Bool, true, false, cond, not, ◌&&◌, ◌||◌, List, [], ◌∷◌, map, ℕ, zero, suc, ◌+◌, T, eqb, leb, ltb, length, get_or}
use Rattle.std.proofs.Math.Option.{Option, none, some, bind, Option-elim}
use Rattle.laws.specs.First.{first}
use Rattle.laws.specs.Lists.{all, any, keep, is_in, twice, from}
use Rattle.entity.specs.Limits.{slot_limit, reg_limit, unit_limit, class_limit, group_limit, value_limit, value_group_limit, block_limit, inst_limit, operand_limit, edit_limit, reuse_limit}
use Rattle.rules.specs.Sheet.{Place, Reg, Slot, Constraint, Class, Fixed, Reuse, OperandKind, Def, Use, EarlyDef, DefGroup, UseGroup, EarlyDefGroup, NonAllocatable, Edit, Move, Remat, Espill, Ereload, Misplaced, Nothing, Sheet, GroupRow, OpRow, EditRow, reg_count, block_count, inst_count, class_row, block_row, values_of, units_of, succs_of, preds_of, insts_of, is_use, is_use_group}

-- ---- 2

-- "A unit or a reuse index over 127 passes a limit too."
unfoldable pub units_within : List ℕ → Bool
units_within us = all (λ u. ltb u unit_limit) us

unfoldable pub reuse_within : Constraint → Bool
reuse_within c = elim c [ Reuse k ↦ ltb k.0 reuse_limit | Class c ↦ true | Fixed r ↦ true ]

-- "Limits: 64 slots, 128 registers, 128 units, 16 classes, 32 register groups, 256 values, 32 value groups, 64 blocks, 512 instructions,
-- 2,048 operands, 1,024 edits." More than 128 units need one over 127.
unfoldable pub within_limits : Sheet → Bool
within_limits sh =
    leb sh.slots slot_limit
    && leb (reg_count sh) reg_limit
    && all (λ r. units_within r.units) sh.regs
    && leb (length sh.classes) class_limit
    && leb (length sh.groups) group_limit
    && leb (length sh.values) value_limit
    && leb (length sh.vgroups) value_group_limit
    && leb (block_count sh) block_limit
    && leb (inst_count sh) inst_limit
    && leb (length sh.ops) operand_limit
    && all (λ o. reuse_within o.constraint) sh.ops
    && all (λ c. units_within c.list) sh.clobs
    && leb (length sh.edits) edit_limit

-- ---- 3

module _ (sh : Sheet) where
  -- "A unit exists if a register has it."
  unfoldable pub unit_exists : ℕ → Bool
  unit_exists u = any (λ r. is_in u r.units) sh.regs

  abbrev pub reg_exists : ℕ → Bool
  reg_exists r = ltb r (reg_count sh)

  abbrev pub class_exists : ℕ → Bool
  class_exists c = ltb c (length sh.classes)

  abbrev pub value_exists : ℕ → Bool
  value_exists v = ltb v (length sh.values)

  abbrev pub vgroup_exists : ℕ → Bool
  vgroup_exists g = ltb g (length sh.vgroups)

  abbrev pub block_exists : ℕ → Bool
  block_exists b = ltb b (block_count sh)

  abbrev pub inst_exists : ℕ → Bool
  inst_exists i = ltb i (inst_count sh)

  abbrev pub slot_exists : ℕ → Bool
  slot_exists s = ltb s sh.slots

  unfoldable pub place_exists : Place → Bool
  place_exists (Reg r) = reg_exists r.0
  place_exists (Slot s) = slot_exists s.0

  unfoldable pub subject_exists : OperandKind → Bool
  subject_exists (Def v) = value_exists v.0
  subject_exists (Use v) = value_exists v.0
  subject_exists (EarlyDef v) = value_exists v.0
  subject_exists (DefGroup g) = vgroup_exists g.0
  subject_exists (UseGroup g) = vgroup_exists g.0
  subject_exists (EarlyDefGroup g) = vgroup_exists g.0
  subject_exists NonAllocatable = true

  -- "A reuse of an absent operand is 5, not 3."
  unfoldable pub constraint_exists : Constraint → Bool
  constraint_exists (Class c) = class_exists c.0
  constraint_exists (Fixed r) = reg_exists r.0
  constraint_exists (Reuse k) = true

  unfoldable pub edit_names : Edit → Bool
  edit_names (Move to p v) = place_exists to && place_exists p && value_exists v.0
  edit_names (Remat to v) = place_exists to && value_exists v.0
  edit_names (Espill s r) = slot_exists s.0 && reg_exists r.0
  edit_names (Ereload r s) = reg_exists r.0 && slot_exists s.0
  edit_names (Misplaced to p) = place_exists to && place_exists p
  edit_names Nothing = true

  -- "a row names something absent"
  unfoldable pub all_named : Bool
  all_named =
      all (λ c. all reg_exists c.members) sh.classes
      && all (λ g. class_exists g.class && all reg_exists g.regs) sh.groups
      && all (λ h. Option-elim h true slot_exists) sh.values
      && all (λ g. all value_exists g) sh.vgroups
      && all (λ b. Option-elim b.idom true block_exists) sh.blocks
      && all (λ s. block_exists s.at && all block_exists s.list) sh.succs
      && all (λ p. block_exists p.at && all block_exists p.list) sh.preds
      && all (λ p. block_exists p.at && value_exists p.value && place_exists p.place) sh.params
      && all (λ o. inst_exists o.at && subject_exists o.kind && constraint_exists o.constraint && place_exists o.place) sh.ops
      && all (λ c. inst_exists c.at && all unit_exists c.list) sh.clobs
      && all (λ e. inst_exists e.at && edit_names e.edit) sh.edits

  -- "or one thing twice in a list"
  unfoldable pub none_twice : Bool
  none_twice =
      all (λ r. not (twice r.units)) sh.regs
      && all (λ c. not (twice c.members)) sh.classes
      && all (λ g. not (twice g.regs)) sh.groups
      && all (λ g. not (twice g)) sh.vgroups
      && all (λ s. not (twice s.list)) sh.succs
      && all (λ p. not (twice p.list)) sh.preds
      && all (λ c. not (twice c.list)) sh.clobs

-- the group is of class c and begins with register r
unfoldable pub headed_by : ℕ → ℕ → GroupRow → Bool
headed_by c r g = eqb g.class c && eqb (get_or g.regs 0 0) r

-- "two groups share class and first register"
unfoldable pub heads_apart : List GroupRow → Bool
heads_apart [] = true
heads_apart (g ∷ gs) = not (any (headed_by g.class (get_or g.regs 0 0)) gs) && heads_apart gs

unfoldable pub names_hold : Sheet → Bool
names_hold sh = all_named sh && none_twice sh && heads_apart sh.groups

-- ---- 4, 9, 10, 11, 12

module _ (sh : Sheet) where
  abbrev pub blocks_from0 : List ℕ
  blocks_from0 = from 0 (block_count sh)

  abbrev pub is_entry : ℕ → Bool
  is_entry b = (block_row sh b).entry

  -- 4: "no entry"
  unfoldable pub some_entry : Bool
  some_entry = any (λ b. b.entry) sh.blocks

  -- 4: "empty block"
  unfoldable pub filled : ℕ → Bool
  filled b = ltb 0 (block_row sh b).instructions

  -- 9: "lists disagree": "the block naming a neighbour that doesn't name it back"
  unfoldable pub named_back : ℕ → Bool
  named_back b = all (λ t. is_in b (preds_of sh t)) (succs_of sh b) && all (λ p. is_in b (succs_of sh p)) (preds_of sh b)

  -- 10: "entry with predecessor"
  unfoldable pub entry_first : ℕ → Bool
  entry_first b = not (is_entry b) || eqb (length (preds_of sh b)) 0

  -- "or several successors meeting several predecessors"
  unfoldable pub no_critical_edge : ℕ → Bool
  no_critical_edge b = leb (length (succs_of sh b)) 1 || all (λ t. leb (length (preds_of sh t)) 1) (succs_of sh b)

  unfoldable pub edges_hold : ℕ → Bool
  edges_hold b = entry_first b && no_critical_edge b

  -- 11: "sole predecessor .. not smaller"
  unfoldable pub sole_pred_smaller : ℕ → Bool
  sole_pred_smaller b = not (eqb (length (preds_of sh b)) 1) || ltb (get_or (preds_of sh b) 0 0) b

  -- "or idom not smaller"
  unfoldable pub idom_smaller : ℕ → Bool
  idom_smaller b = Option-elim (block_row sh b).idom true (λ i. ltb i b)

  unfoldable pub smaller_hold : ℕ → Bool
  smaller_hold b = sole_pred_smaller b && idom_smaller b

  -- the blocks, and with them each that is listed as a successor of one of them
  unfoldable pub further : List ℕ → List ℕ
  further bs = keep (λ b. is_in b bs || any (λ a. is_in b (succs_of sh a)) bs) blocks_from0

  -- the blocks that an entry reaches by at most n steps
  unfoldable pub reached_in : ℕ → List ℕ
  reached_in zero = keep is_entry blocks_from0
  reached_in (suc n) = further (reached_in n)

  -- 12: "not reached": as many steps as there are blocks are enough
  unfoldable pub is_reached : ℕ → Bool
  is_reached b = is_in b (reached_in (block_count sh))

  -- a rule of one block, kept by all of them
  unfoldable pub each_block : (ℕ → Bool) → Bool
  each_block keeps = all keeps blocks_from0

  -- "the lowest block concerned": the first that does not keep the rule
  unfoldable pub lowest_not : (ℕ → Bool) → ℕ
  lowest_not keeps = first (λ b. b) 0 (λ b. not (keeps b)) 0 (block_count sh)

  -- "the `block` row of the .. block .., counted from 1 over all rows of the sheet"
  unfoldable pub row_of : ℕ → ℕ
  row_of b = sh.above + b + 1

-- b is an entry, or a listed successor of a block that is reached
pub data Reached (sh : Sheet) : ℕ → Type 0 where
  entry : {b : ℕ} → T (ltb b (block_count sh) && is_entry sh b) → Reached sh b
  next : {a b : ℕ} → Reached sh a → T (ltb b (block_count sh) && is_in b (succs_of sh a)) → Reached sh b

-- ---- 5

-- two places are one
unfoldable pub same_place : Place → Place → Bool
same_place (Reg r) (Reg q) = eqb r.0 q.0
same_place (Reg r) (Slot s) = false
same_place (Slot s) (Reg r) = false
same_place (Slot s) (Slot t) = eqb s.0 t.0

-- "a `use` for `def` or `useg` for `defg`"
unfoldable pub kinds_match : OperandKind → OperandKind → Bool
kinds_match k u = elim k [ Def v ↦ is_use u | DefGroup g ↦ is_use_group u | Use v ↦ false | EarlyDef v ↦ false | UseGroup g ↦ false | EarlyDefGroup g ↦ false | NonAllocatable ↦ false ]

unfoldable pub is_fixed : Constraint → Bool
is_fixed c = elim c [ Fixed r ↦ true | Class c ↦ false | Reuse k ↦ false ]

module _ (sh : Sheet) where
  -- the operands of an instruction, in row order
  unfoldable pub operands_at : ℕ → List OpRow
  operands_at i = keep (λ o. eqb o.at i) sh.ops

  -- operand k of the instruction of o; `none` where it has no such operand
  unfoldable pub operand : OpRow → ℕ → Option OpRow
  operand o k = let os = operands_at o.at in cond (ltb k (length os)) (some (get_or os k o)) none

  -- "class place not in the class (a slot needs the slots flag)"
  unfoldable pub in_class : ℕ → Place → Bool
  in_class c (Reg r) = is_in r.0 (class_row sh c).members
  in_class c (Slot s) = (class_row sh c).slots

  -- the class of a class constraint
  unfoldable pub class_of : Constraint → Option ℕ
  class_of c = elim c [ Class c ↦ some c.0 | Fixed r ↦ none | Reuse k ↦ none ]

  -- the class of an operand: for a reuse, the reused operand's
  unfoldable pub class_for : OpRow → Option ℕ
  class_for o = elim o.constraint [ Class c ↦ some c.0 | Fixed r ↦ none | Reuse k ↦ bind (operand o k.0) (λ u. class_of u.constraint) ]

  -- "reuse on anything but `def` or `defg`, or not naming, in the same instruction, a `use` for `def` or `useg` for `defg`, either of class
  -- constraint and the same place"
  unfoldable pub reuse_holds : OpRow → OpRow → Bool
  reuse_holds o u = kinds_match o.kind u.kind && Option-elim (class_of u.constraint) false (λ c. true) && same_place u.place o.place

  -- "fixed place anything but that register"
  unfoldable pub constraint_holds : OpRow → Bool
  constraint_holds o =
      elim o.constraint [
        | Class c ↦ in_class c.0 o.place
        | Fixed r ↦ same_place o.place (Reg r)
        | Reuse k ↦ Option-elim (operand o k.0) false (reuse_holds o)
      ]

  -- "`fixed` without `f`"
  unfoldable pub fixed_holds : OpRow → Bool
  fixed_holds o = elim o.kind [ NonAllocatable ↦ is_fixed o.constraint | Def v ↦ true | Use v ↦ true | EarlyDef v ↦ true | DefGroup g ↦ true | UseGroup g ↦ true | EarlyDefGroup g ↦ true ]

  -- "whose first register begins no group of that class (for `u`, the reused operand's) with the value group's length"
  unfoldable pub begins_group : ℕ → ℕ → ℕ → Bool
  begins_group c r n = any (λ g. headed_by c r g && eqb (length g.regs) n) sh.groups

  -- "group kind in a slot, with `f`, or ..": g is the value group
  unfoldable pub group_at : OpRow → ℕ → Bool
  group_at o g = elim o.place [ Reg r ↦ Option-elim (class_for o) false (λ c. begins_group c r.0 (length (values_of sh g))) | Slot s ↦ false ]

  unfoldable pub group_holds : OpRow → Bool
  group_holds o =
      elim o.kind [ DefGroup g ↦ group_at o g.0 | UseGroup g ↦ group_at o g.0 | EarlyDefGroup g ↦ group_at o g.0 | Def v ↦ true | Use v ↦ true | EarlyDef v ↦ true | NonAllocatable ↦ true ]

  unfoldable pub operands_hold : Bool
  operands_hold = all (λ o. constraint_holds o && fixed_holds o && group_holds o) sh.ops

-- ---- 6

-- "edits not in instruction order"
unfoldable pub in_order : List EditRow → Bool
in_order [] = true
in_order (e ∷ es) = all (λ f. leb e.at f.at) es && in_order es

-- "`espill` not register to slot, `ereload` not slot to register"
unfoldable pub placed : Edit → Bool
placed e = elim e [ Misplaced to p ↦ false | Move to p v ↦ true | Remat to v ↦ true | Espill s r ↦ true | Ereload r s ↦ true | Nothing ↦ true ]

-- "within a block these not alternating as pairs of one slot and one register, spill first, each closed": `open'` is the spill not yet closed
unfoldable pub paired : Option (ℕ × ℕ) → List Edit → Bool
paired none [] = true
paired (some open') [] = false
paired open' (Move to p v ∷ es) = paired open' es
paired open' (Remat to v ∷ es) = paired open' es
paired open' (Misplaced to p ∷ es) = paired open' es
paired open' (Nothing ∷ es) = paired open' es
paired none (Espill s r ∷ es) = paired (some (s.0, r.0)) es
paired (some open') (Espill s r ∷ es) = false
paired none (Ereload r s ∷ es) = false
paired (some open') (Ereload r s ∷ es) = eqb open'.0 s.0 && eqb open'.1 r.0 && paired none es

module _ (sh : Sheet) where
  -- the edits at the instructions of block b
  unfoldable pub edits_in : ℕ → List Edit
  edits_in b = map (λ e. e.edit) (keep (λ e. is_in e.at (insts_of sh b)) sh.edits)

  -- "the pair's slot is a home slot"
  unfoldable pub no_home : ℕ → Bool
  no_home s = not (any (λ h. Option-elim h false (eqb s)) sh.values)

  -- "its register shares a unit with another register"
  unfoldable pub apart : ℕ → Bool
  apart r = all (λ q. eqb q r || not (any (λ u. is_in u (units_of sh q)) (units_of sh r))) (from 0 (reg_count sh))

  unfoldable pub pair_holds : Edit → Bool
  pair_holds e =
      elim e [ Espill s r ↦ no_home s.0 && apart r.0 | Ereload r s ↦ no_home s.0 && apart r.0 | Move to p v ↦ true | Remat to v ↦ true | Misplaced to p ↦ true | Nothing ↦ true ]

  unfoldable pub edits_hold : Bool
  edits_hold =
      in_order sh.edits
      && all (λ e. placed e.edit) sh.edits
      && all (λ b. paired none (edits_in b)) (from 0 (block_count sh))
      && all (λ e. pair_holds e.edit) sh.edits
