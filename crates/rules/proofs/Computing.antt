-- `unfolding computing` opens every definition that `answer` computes with: for the theorems by computing, here and of oracle/definitions.
use mathlib.Core.Bool.{Bool, true}
use mathlib.Core.List.{flat_map, zip, zip_with}
use mathlib.Core.Option.{bind, Option-elim}
use Rattle.laws.specs.{First.first, Fold.run}
use Rattle.laws.specs.Lists.{keep, is_in, twice, from}
use Rattle.rules.specs.Rows.{reading}
use Rattle.rules.specs.Sheet.{flag_of, maybe, place_of, constraint_of, kind_of, is_use, is_use_group, is_early, subject_of, espill_of, ereload_of, edit_of, list_row, sheet_by, sheet_of, total_of, list_at, insts_from}
use Rattle.rules.specs.Accept.{units_within, reuse_within, within_limits, unit_exists, place_exists, subject_exists, constraint_exists, edit_names, all_named, none_twice, headed_by, heads_apart, names_hold, some_entry, filled, named_back, entry_first, no_critical_edge, edges_hold, sole_pred_smaller, idom_smaller, smaller_hold, further, reached_in, is_reached, each_block, lowest_not, row_of, same_place, kinds_match, is_fixed, operands_at, operand, in_class, class_of, class_for, reuse_holds, constraint_holds, fixed_holds, begins_group, group_at, group_holds, operands_hold, in_order, placed, paired, edits_in, no_home, apart, pair_holds, edits_hold}
use Rattle.rules.specs.Record.{nothing, fresh, holds, take_from, forget_unit, drop_value, overwrite, empty_home, is_home, define, arrive, espill, write_back, add_back, ereload, effect}
use Rattle.rules.specs.Forward.{count, climbs, dominates, write_held, take_in, enter, group_regs, members, all_defs, define_all, place_units, clobber, in_memory, lowest_holding, reused, fold_to, indexed, fold, optimise_inst, prepare_inst, already, to_home, spilled_above, note_spill, removal, new_source, optimise_move, optimise_edit, edits_at, optimise_block, prepare_block, skips, first_state, meet, same_known, hand_to, hand_on, begun, begins_empty, forward_start, forward_block, global_start, visit, visits, most_visits, optimise_all, global_walk, optimise, start}
use Rattle.rules.specs.Function.{slot_of, items, inst_of, look, func_of, along}
use Rattle.rules.specs.Sweep.{with, with_all, without_all, wanted_by, wanted_before, wanted_at, ends_from, starts_from, no_more, settle, ends, strike_by, strike, is_nothing, struck, strike_items, strike_blocks, sweep}
use Rattle.rules.specs.Answer.{place_cell, edit_cells, fold_row, edit_text, count_text, output, cleaned, fitted, block_check, block_checks, checks, first_refusal, checked, called, answer, returned, buffer, printed, program}

unfoldable pub computing : Bool
unfolding flat_map zip zip_with bind Option-elim first run keep is_in twice from reading flag_of maybe place_of constraint_of kind_of is_use is_use_group is_early subject_of espill_of ereload_of edit_of list_row sheet_by sheet_of total_of list_at insts_from units_within reuse_within within_limits unit_exists place_exists subject_exists constraint_exists edit_names all_named none_twice headed_by heads_apart names_hold some_entry filled named_back entry_first no_critical_edge edges_hold sole_pred_smaller idom_smaller smaller_hold further reached_in is_reached each_block lowest_not row_of same_place kinds_match is_fixed operands_at operand in_class class_of class_for reuse_holds constraint_holds fixed_holds begins_group group_at group_holds operands_hold in_order placed paired edits_in no_home apart pair_holds edits_hold fresh holds take_from forget_unit drop_value overwrite empty_home is_home define arrive espill write_back add_back ereload effect nothing count climbs dominates write_held take_in enter group_regs members all_defs define_all place_units clobber in_memory lowest_holding reused fold_to indexed fold optimise_inst prepare_inst already to_home spilled_above note_spill removal new_source optimise_move optimise_edit edits_at optimise_block prepare_block skips first_state meet same_known hand_to hand_on begun begins_empty forward_start forward_block global_start visit visits most_visits optimise_all global_walk optimise start slot_of items inst_of look func_of along with with_all without_all wanted_by wanted_before wanted_at ends_from starts_from no_more settle ends strike_by strike is_nothing struck strike_items strike_blocks sweep place_cell edit_cells fold_row edit_text count_text output cleaned fitted block_check block_checks checks first_refusal checked called answer returned buffer printed program
computing = true
