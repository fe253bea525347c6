-- Refusals 2 and 3 in the steps in which the code goes: parts of `within_limits` and `all_named`, and what they ask of one row.
use Rattle.std.specs.Prelude.{Bool, true, ◌&&◌, ℕ, leb, ltb, length}
use Rattle.std.proofs.Math.Option.{Option-elim}
use Rattle.laws.specs.Lists.{all}
use Rattle.entity.specs.Limits.{slot_limit, reg_limit, class_limit, group_limit, value_limit, value_group_limit}
use Rattle.rules.specs.Sheet.{Sheet, GroupRow, ListRow, ParamRow, OpRow, EditRow, reg_count}
use Rattle.rules.specs.Accept.{units_within, reg_exists, class_exists, value_exists, block_exists, slot_exists, place_exists, subject_exists, constraint_exists, edit_names}

-- the limits of slots, registers and their units, classes, register groups, values and value groups
unfoldable pub machine_within : Sheet → Bool
machine_within sh =
    leb sh.slots slot_limit
    && leb (reg_count sh) reg_limit
    && all (λ r. units_within r.units) sh.regs
    && leb (length sh.classes) class_limit
    && leb (length sh.groups) group_limit
    && leb (length sh.values) value_limit
    && leb (length sh.vgroups) value_group_limit

module _ (sh : Sheet) where
  -- what a row names is there
  abbrev pub group_named : GroupRow → Bool
  group_named g = class_exists sh g.class && all (reg_exists sh) g.regs

  abbrev pub edge_named : ListRow → Bool
  edge_named s = block_exists sh s.at && all (block_exists sh) s.list

  abbrev pub param_named : ParamRow → Bool
  param_named p = block_exists sh p.at && value_exists sh p.value && place_exists sh p.place

  -- where there are `insts` instructions
  abbrev pub op_named : ℕ → OpRow → Bool
  op_named insts o = ltb o.at insts && subject_exists sh o.kind && constraint_exists sh o.constraint && place_exists sh o.place

  abbrev pub edit_named : ℕ → EditRow → Bool
  edit_named insts e = ltb e.at insts && edit_names sh e.edit

-- and where `exists` says which units there are
abbrev pub clob_named : (ℕ → Bool) → ℕ → ListRow → Bool
clob_named exists insts c = ltb c.at insts && all exists c.list

module _ (sh : Sheet) where
  -- what classes, groups, values and value groups name
  unfoldable pub machine_named : Bool
  machine_named =
      all (λ c. all (reg_exists sh) c.members) sh.classes
      && all (group_named sh) sh.groups
      && all (λ h. Option-elim h true (slot_exists sh)) sh.values
      && all (λ g. all (value_exists sh) g) sh.vgroups

  -- what operands, clobbers and edits name
  unfoldable pub code_named : (ℕ → Bool) → ℕ → Bool
  code_named exists insts =
      all (op_named sh insts) sh.ops
      && all (clob_named exists insts) sh.clobs
      && all (edit_named sh insts) sh.edits
