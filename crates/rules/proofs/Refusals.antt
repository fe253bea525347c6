-- What refusals 2 and 3 (specs/Accept.antt) say, fact by fact: `within_limits` and `all_named` are rows of tests joined by `&&`. Assumes nothing.
use mathlib.Core.Path.{◌≡◌}
use mathlib.Core.Bool.{Bool, true, ◌&&◌}
use mathlib.Core.List.{List, [], ◌∷◌}
use mathlib.Core.Option.{Option-elim}
use Prim.Native.Nat.{◌≤◌}
use lib.Dec.{leb}
use lib.ListN.{length}
use borrow.Author.Tests.{leb-true}
use Rattle.laws.specs.Lists.{all}
use Rattle.laws.proofs.Cases.{and_left, joined, each}
use Rattle.entity.specs.Limits.{slot_limit, reg_limit, class_limit, group_limit, value_limit, value_group_limit, block_limit, inst_limit, operand_limit, edit_limit}
use Rattle.rules.specs.Sheet.{Sheet, reg_count, block_count, inst_count}
use Rattle.rules.specs.Accept.{units_within, reuse_within, within_limits, unit_exists, reg_exists, class_exists, value_exists, block_exists, inst_exists, slot_exists, place_exists, subject_exists, constraint_exists, edit_names, all_named, none_twice, heads_apart, names_hold}

-- ---- 2

pub record InLimits (sh : Sheet) : Type 0 where
  pub few_slots : sh.slots ≤ slot_limit
  pub few_regs : reg_count sh ≤ reg_limit
  pub small_units : all (λ r. units_within r.units) sh.regs ≡ true
  pub few_classes : length sh.classes ≤ class_limit
  pub few_groups : length sh.groups ≤ group_limit
  pub few_values : length sh.values ≤ value_limit
  pub few_vgroups : length sh.vgroups ≤ value_group_limit
  pub few_blocks : block_count sh ≤ block_limit
  pub few_insts : inst_count sh ≤ inst_limit
  pub few_ops : length sh.ops ≤ operand_limit
  pub small_reuses : all (λ o. reuse_within o.constraint) sh.ops ≡ true
  pub small_clobbers : all (λ c. units_within c.list) sh.clobs ≡ true
  pub few_edits : length sh.edits ≤ edit_limit

limit_tests : Sheet → List Bool
limit_tests sh =
    leb (reg_count sh) reg_limit
    ∷ all (λ r. units_within r.units) sh.regs
    ∷ leb (length sh.classes) class_limit
    ∷ leb (length sh.groups) group_limit
    ∷ leb (length sh.values) value_limit
    ∷ leb (length sh.vgroups) value_group_limit
    ∷ leb (block_count sh) block_limit
    ∷ leb (inst_count sh) inst_limit
    ∷ leb (length sh.ops) operand_limit
    ∷ all (λ o. reuse_within o.constraint) sh.ops
    ∷ all (λ c. units_within c.list) sh.clobs
    ∷ leb (length sh.edits) edit_limit
    ∷ []

pub in_limits : (sh : Sheet) → within_limits sh ≡ true → InLimits sh
unfolding within_limits joined limit_tests
in_limits sh e =
    let at = each (leb sh.slots slot_limit) (limit_tests sh) e in
    record {
      few_slots = leb-true _ _ (at 0);
      few_regs = leb-true _ _ (at 1);
      small_units = at 2;
      few_classes = leb-true _ _ (at 3);
      few_groups = leb-true _ _ (at 4);
      few_values = leb-true _ _ (at 5);
      few_vgroups = leb-true _ _ (at 6);
      few_blocks = leb-true _ _ (at 7);
      few_insts = leb-true _ _ (at 8);
      few_ops = leb-true _ _ (at 9);
      small_reuses = at 10;
      small_clobbers = at 11;
      few_edits = leb-true _ _ (at 12);
    }

-- ---- 3

pub all_named_lem : (sh : Sheet) → names_hold sh ≡ true → all_named sh ≡ true
unfolding names_hold
all_named_lem sh e = and_left (all_named sh) (none_twice sh) (and_left (all_named sh && none_twice sh) (heads_apart sh.groups) e)

-- what `all_named` asks, kind by kind
pub record Named (sh : Sheet) : Type 0 where
  pub classes : all (λ c. all (reg_exists sh) c.members) sh.classes ≡ true
  pub groups : all (λ g. class_exists sh g.class && all (reg_exists sh) g.regs) sh.groups ≡ true
  pub homes : all (λ h. Option-elim h true (slot_exists sh)) sh.values ≡ true
  pub vgroups : all (λ g. all (value_exists sh) g) sh.vgroups ≡ true
  pub idoms : all (λ b. Option-elim b.idom true (block_exists sh)) sh.blocks ≡ true
  pub succs : all (λ s. block_exists sh s.at && all (block_exists sh) s.list) sh.succs ≡ true
  pub preds : all (λ p. block_exists sh p.at && all (block_exists sh) p.list) sh.preds ≡ true
  pub params : all (λ p. block_exists sh p.at && value_exists sh p.value && place_exists sh p.place) sh.params ≡ true
  pub ops : all (λ o. inst_exists sh o.at && subject_exists sh o.kind && constraint_exists sh o.constraint && place_exists sh o.place) sh.ops ≡ true
  pub clobs : all (λ c. inst_exists sh c.at && all (unit_exists sh) c.list) sh.clobs ≡ true
  pub edits : all (λ e. inst_exists sh e.at && edit_names sh e.edit) sh.edits ≡ true

name_tests : Sheet → List Bool
name_tests sh =
    all (λ g. class_exists sh g.class && all (reg_exists sh) g.regs) sh.groups
    ∷ all (λ h. Option-elim h true (slot_exists sh)) sh.values
    ∷ all (λ g. all (value_exists sh) g) sh.vgroups
    ∷ all (λ b. Option-elim b.idom true (block_exists sh)) sh.blocks
    ∷ all (λ s. block_exists sh s.at && all (block_exists sh) s.list) sh.succs
    ∷ all (λ p. block_exists sh p.at && all (block_exists sh) p.list) sh.preds
    ∷ all (λ p. block_exists sh p.at && value_exists sh p.value && place_exists sh p.place) sh.params
    ∷ all (λ o. inst_exists sh o.at && subject_exists sh o.kind && constraint_exists sh o.constraint && place_exists sh o.place) sh.ops
    ∷ all (λ c. inst_exists sh c.at && all (unit_exists sh) c.list) sh.clobs
    ∷ all (λ e. inst_exists sh e.at && edit_names sh e.edit) sh.edits
    ∷ []

pub each_named : (sh : Sheet) → all_named sh ≡ true → Named sh
unfolding all_named joined name_tests
each_named sh e =
    let at = each (all (λ c. all (reg_exists sh) c.members) sh.classes) (name_tests sh) e in
    record {
      classes = at 0;
      groups = at 1;
      homes = at 2;
      vgroups = at 3;
      idoms = at 4;
      succs = at 5;
      preds = at 6;
      params = at 7;
      ops = at 8;
      clobs = at 9;
      edits = at 10;
    }
