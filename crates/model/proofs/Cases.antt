-- The definitions compute the table of cases, and it is the one that the second implementation gives.
-- Assumes nothing.
use mathlib.Core.Path.{◌≡◌, refl}
use mathlib.Core.Bool.{Bool, true, ◌&&◌}
use lib.Count.{ones, ones_in}
use Rattle.crdt.specs.Labels.{is_label, label_within}
use Rattle.crdt.specs.Flags.{deleted, redone}
use Rattle.crdt.specs.Cells.{up_to, join_reg, join_regs, join_cell, join_opt}
use Rattle.model.specs.Layout.{word, block, relations, field_count, kind_at, mask_at, base, capacity_of, replica_at, clock_at, used_at, first_at, next_at, relation_at, label_at, flag_at, value_at, stamp_at}
use Rattle.model.specs.Lists.{each, any, from, listed, only, some_of, all_of, times, lowest}
use Rattle.model.specs.Schemas.{block_rule, empty_block, broken, relation_of, schema_of, relation_numbered}
use Rattle.model.specs.Records.{has, own, at, insert, in_order, join, distinct, least_above, position_from}
use Rattle.model.specs.Tables.{record_of, decode, follower, encode_record, encode_records, encode_header, encode, contents}
use Rattle.model.specs.WellFormed.{header_rules, firsts_rule, empty_above, field_rule, record_rules, counters_rule, chain_from, chain_of, chain_step, rises, chains_rise, on_chain, rest_zero, well_formed}
use Rattle.model.specs.Shown.{described, stamped, complete, leads, targets, references, equal_on, conflict_on, conflict, live, reached, hop, standing, beaten, kept_after, kept, grounded, settled, shown}
use Rattle.model.specs.Merge.{joined_with, merged_records, merged, too_many}
use Rattle.model.specs.Edits.{delta_of, edited_by, new_label, flag_of, flag_only, odd, redoing, spent, supported, values_rule, new_record, insertion, record_at, register_at, with_register, leading, update_redoes, update_conflict, update, deletion_redoes, deletion}
use Rattle.model.specs.Calls.{schema_length, table_length, delta_length, marks_length, bad_index, schema_number, table_number, start_number, start_table, values_number, values_part, merge_number, merge_table, marks_of, marks_number, marks_count, marks_marks, marked, place_key, walk_number, walk_given, walk_place, edit_number, edit_table, edit_delta, insertion_of, insertion_number, insertion_label, insertion_table, insertion_delta, update_of, update_number, update_table, update_delta, deletion_of, deletion_number, deletion_table, deletion_delta, entry_at, walked, table_walked, shown_list}
use Rattle.model.specs.Cases.{pad, block_of, herd, header, row, table, same_words, same_entries, lists, holds, all_hold, same_reg, same_case, same_cases}
use Rattle.model.specs.Second.{schema, cases}

pub cases_hold : all_hold ≡ true
unfolding ones ones_in is_label label_within deleted redone up_to join_reg join_regs join_cell join_opt word block relations field_count kind_at mask_at base capacity_of replica_at clock_at used_at first_at next_at relation_at label_at flag_at value_at stamp_at each any from listed only some_of all_of times lowest block_rule empty_block broken relation_of schema_of relation_numbered has own at insert in_order join distinct least_above position_from record_of decode follower encode_record encode_records encode_header encode contents header_rules firsts_rule empty_above field_rule record_rules counters_rule chain_from chain_of chain_step rises chains_rise on_chain rest_zero well_formed described stamped complete leads targets references equal_on conflict_on conflict live reached hop standing beaten kept_after kept grounded settled shown joined_with merged_records merged too_many delta_of edited_by new_label flag_of flag_only odd redoing spent supported values_rule new_record insertion record_at register_at with_register leading update_redoes update_conflict update deletion_redoes deletion schema_length table_length delta_length marks_length bad_index schema_number table_number start_number start_table values_number values_part merge_number merge_table marks_of marks_number marks_count marks_marks marked place_key walk_number walk_given walk_place edit_number edit_table edit_delta insertion_of insertion_number insertion_label insertion_table insertion_delta update_of update_number update_table update_delta deletion_of deletion_number deletion_table deletion_delta entry_at walked table_walked shown_list pad block_of herd header row table same_words same_entries lists holds all_hold same_reg same_case same_cases
cases_hold = refl

pub cases_same : (same_words herd schema && same_cases table cases) ≡ true
unfolding pad block_of header row herd table same_words same_entries same_reg same_case same_cases schema cases
cases_same = refl
