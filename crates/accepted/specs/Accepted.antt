-- What a sheet that no check of 2 to 6 refuses keeps.
use Rattle.std.specs.Prelude.{◌≡◌, true, ℕ, ◌≤◌, ◌<◌, length, get_or}
use Rattle.std.proofs.Math.Option.{none, some}
use Rattle.laws.specs.Lists.{all, is_in}
use Rattle.entity.specs.Limits.{slot_limit, reg_limit, class_limit, group_limit, value_limit, value_group_limit, block_limit, inst_limit, operand_limit, edit_limit}
use Rattle.rules.specs.Sheet.{Sheet, reg_count, block_count, inst_count, block_row, succs_of, preds_of}
use Rattle.rules.specs.Accept.{units_within, reuse_within, all_named, none_twice, heads_apart, some_entry, is_entry, Reached, constraint_holds, fixed_holds, group_holds, in_order, placed, paired, edits_in, pair_holds}

pub record Accepted (sh : Sheet) : Type 0 where
  -- 2: the ranges of every number of rows, of units and of reuse indices
  pub few_slots : sh.slots ≤ slot_limit
  pub few_regs : reg_count sh ≤ reg_limit
  pub few_classes : length sh.classes ≤ class_limit
  pub few_groups : length sh.groups ≤ group_limit
  pub few_values : length sh.values ≤ value_limit
  pub few_vgroups : length sh.vgroups ≤ value_group_limit
  pub few_blocks : block_count sh ≤ block_limit
  pub few_insts : inst_count sh ≤ inst_limit
  pub few_ops : length sh.ops ≤ operand_limit
  pub few_edits : length sh.edits ≤ edit_limit
  pub reg_units : all (λ r. units_within r.units) sh.regs ≡ true
  pub clob_units : all (λ c. units_within c.list) sh.clobs ≡ true
  pub reuses : all (λ o. reuse_within o.constraint) sh.ops ≡ true
  -- 3: every number names something; no list has one thing twice; groups' heads are apart
  pub named : all_named sh ≡ true
  pub once_each : none_twice sh ≡ true
  pub apart_heads : heads_apart sh.groups ≡ true
  -- 4: the lists agree
  pub succ_pred : (a t : ℕ) → a < block_count sh → is_in t (succs_of sh a) ≡ true → is_in a (preds_of sh t) ≡ true
  pub pred_succ : (b p : ℕ) → b < block_count sh → is_in p (preds_of sh b) ≡ true → is_in b (succs_of sh p) ≡ true
  -- there is an entry, no block is empty, entries have no predecessor
  pub has_entry : some_entry sh ≡ true
  pub none_empty : (b : ℕ) → b < block_count sh → 0 < (block_row sh b).instructions
  pub entry_first : (b : ℕ) → b < block_count sh → is_entry sh b ≡ true → length (preds_of sh b) ≡ 0
  -- sole predecessors and idoms are smaller
  pub sole_pred : (b : ℕ) → b < block_count sh → length (preds_of sh b) ≡ 1 → get_or (preds_of sh b) 0 0 < b
  pub idom : (b i : ℕ) → b < block_count sh → (block_row sh b).idom ≡ some i → i < b
  -- of several successors each has one predecessor
  pub no_critical_edges : (b t : ℕ) → b < block_count sh → 1 < length (succs_of sh b) → is_in t (succs_of sh b) ≡ true → length (preds_of sh t) ≤ 1
  -- every block is reached
  pub reached : (b : ℕ) → b < block_count sh → Reached sh b
  -- 5: every operand keeps its rules
  pub constraints : all (constraint_holds sh) sh.ops ≡ true
  pub fixed : all (fixed_holds sh) sh.ops ≡ true
  pub groups : all (group_holds sh) sh.ops ≡ true
  -- 6: edits stand in order, emergency ones are placed, come in pairs that are closed within a block, and apart from homes and other registers
  pub order : in_order sh.edits ≡ true
  pub all_placed : all (λ e. placed e.edit) sh.edits ≡ true
  pub pairs : (b : ℕ) → b < block_count sh → paired none (edits_in sh b) ≡ true
  pub pairs_apart : all (λ e. pair_holds sh e.edit) sh.edits ≡ true
