-- The definitions compute the examples of twelve fields.
-- Assumes nothing.
use mathlib.Core.Path.{◌≡◌, refl}
use mathlib.Core.Bool.{true}
use lib.Count.{ones, ones_in}
use Rattle.crdt.specs.Labels.{is_label, label_within}
use Rattle.crdt.specs.Flags.{deleted, redone}
use Rattle.crdt.specs.Cells.{up_to, join_reg, join_regs, join_cell, join_opt, reg_changed, regs_changed, cell_changed}
use Rattle.model.specs.Layout.{word, block, relations, field_count, kind_at, mask_at, base, capacity_of, replica_at, clock_at, used_at, first_at, next_at, relation_at, label_at, flag_at, value_at, stamp_at}
use Rattle.model.specs.Lists.{each, any, from, listed, only, some_of, all_of, times, lowest}
use Rattle.model.specs.Schemas.{block_rule, empty_block, broken, relation_of, schema_of, relation_numbered}
use Rattle.model.specs.Records.{has, own, at, insert, in_order, distinct, least_above, position_from}
use Rattle.model.specs.Tables.{record_of, decode, follower, encode_record, encode_records, encode_header, encode}
use Rattle.model.specs.WellFormed.{header_rules, firsts_rule, empty_above, field_rule, record_rules, counters_rule, chain_from, chain_of, chain_step, rises, chains_rise, on_chain, rest_zero, well_formed}
use Rattle.model.specs.Shown.{described, stamped, complete, leads, targets, references, equal_on, conflict_on, conflict, live, reached, hop, standing, beaten, kept_after, kept, grounded, settled, shown}
use Rattle.model.specs.Merge.{joined_with, merged_records, merged, too_many, changes}
use Rattle.model.specs.Edits.{delta_of, edited_by, new_label, flag_of, flag_only, odd, redoing, spent, supported, values_rule, new_record, insertion, record_at, register_at, with_register, leading, update_redoes, update_conflict, update, deletion_redoes, deletion}
use Rattle.model.specs.Calls.{schema_length, table_length, delta_length, marks_length, bad_index, schema_number, table_number, values_number, values_part, values_first, merge_number, merge_table, merge_changed, marks_of, marks_number, marks_count, marks_marks, marked, place_key, walk_number, walk_given, walk_place, edit_number, edit_table, edit_delta, insertion_of, insertion_number, insertion_table, insertion_delta, update_of, update_number, update_table, update_delta, deletion_of, deletion_number, entry_at, walked, table_walked, shown_list}
use Rattle.model.specs.Cases.{pad, block_of, herd, header, row, same_words}
use Rattle.sentences.specs.Twelve.{wide_schemas, last_fields, wide_words, twelve_redone, old_words}

pub wide_schemas_hold : wide_schemas ≡ true
unfolding ones ones_in word block relations field_count kind_at mask_at each any all_of lowest block_rule empty_block broken schema_length schema_number wide_schemas
wide_schemas_hold = refl

pub last_fields_hold : last_fields ≡ true
unfolding ones ones_in is_label label_within deleted redone up_to join_reg join_regs join_cell join_opt reg_changed regs_changed cell_changed word block relations field_count kind_at mask_at base capacity_of replica_at clock_at used_at first_at next_at relation_at label_at flag_at value_at stamp_at each any from listed only some_of all_of times lowest block_rule empty_block broken relation_of schema_of relation_numbered has own at insert in_order distinct least_above position_from record_of decode follower encode_record encode_records encode_header encode header_rules firsts_rule empty_above field_rule record_rules counters_rule chain_from chain_of chain_step rises chains_rise on_chain rest_zero well_formed described stamped complete leads targets references equal_on conflict_on conflict live reached hop standing beaten kept_after kept grounded settled shown joined_with merged_records merged too_many changes delta_of edited_by new_label flag_of flag_only odd redoing spent supported values_rule new_record insertion record_at register_at with_register leading update_redoes update_conflict update deletion_redoes deletion schema_length table_length delta_length marks_length bad_index schema_number table_number values_number values_part values_first merge_number merge_table merge_changed marks_of marks_number marks_count marks_marks marked place_key walk_number walk_given walk_place edit_number edit_table edit_delta insertion_of insertion_number insertion_table insertion_delta update_of update_number update_table update_delta deletion_of deletion_number entry_at walked table_walked shown_list pad block_of herd header row same_words last_fields
last_fields_hold = refl

pub wide_words_hold : wide_words ≡ true
unfolding ones ones_in is_label label_within deleted redone up_to join_reg join_regs join_cell join_opt reg_changed regs_changed cell_changed word block relations field_count kind_at mask_at base capacity_of replica_at clock_at used_at first_at next_at relation_at label_at flag_at value_at stamp_at each any from listed only some_of all_of times lowest block_rule empty_block broken relation_of schema_of relation_numbered has own at insert in_order distinct least_above position_from record_of decode follower encode_record encode_records encode_header encode header_rules firsts_rule empty_above field_rule record_rules counters_rule chain_from chain_of chain_step rises chains_rise on_chain rest_zero well_formed described stamped complete leads targets references equal_on conflict_on conflict live reached hop standing beaten kept_after kept grounded settled shown joined_with merged_records merged too_many changes delta_of edited_by new_label flag_of flag_only odd redoing spent supported values_rule new_record insertion record_at register_at with_register leading update_redoes update_conflict update deletion_redoes deletion schema_length table_length delta_length marks_length bad_index schema_number table_number values_number values_part values_first merge_number merge_table merge_changed marks_of marks_number marks_count marks_marks marked place_key walk_number walk_given walk_place edit_number edit_table edit_delta insertion_of insertion_number insertion_table insertion_delta update_of update_number update_table update_delta deletion_of deletion_number entry_at walked table_walked shown_list pad block_of herd header row same_words wide_words
wide_words_hold = refl

pub twelve_redone_hold : twelve_redone ≡ true
unfolding ones ones_in is_label label_within deleted redone up_to join_reg join_regs join_cell join_opt reg_changed regs_changed cell_changed word block relations field_count kind_at mask_at base capacity_of replica_at clock_at used_at first_at next_at relation_at label_at flag_at value_at stamp_at each any from listed only some_of all_of times lowest block_rule empty_block broken relation_of schema_of relation_numbered has own at insert in_order distinct least_above position_from record_of decode follower encode_record encode_records encode_header encode header_rules firsts_rule empty_above field_rule record_rules counters_rule chain_from chain_of chain_step rises chains_rise on_chain rest_zero well_formed described stamped complete leads targets references equal_on conflict_on conflict live reached hop standing beaten kept_after kept grounded settled shown joined_with merged_records merged too_many changes delta_of edited_by new_label flag_of flag_only odd redoing spent supported values_rule new_record insertion record_at register_at with_register leading update_redoes update_conflict update deletion_redoes deletion schema_length table_length delta_length marks_length bad_index schema_number table_number values_number values_part values_first merge_number merge_table merge_changed marks_of marks_number marks_count marks_marks marked place_key walk_number walk_given walk_place edit_number edit_table edit_delta insertion_of insertion_number insertion_table insertion_delta update_of update_number update_table update_delta deletion_of deletion_number entry_at walked table_walked shown_list pad block_of herd header row same_words twelve_redone
twelve_redone_hold = refl

pub old_words_hold : old_words ≡ true
unfolding ones ones_in is_label label_within deleted redone up_to join_reg join_regs join_cell join_opt reg_changed regs_changed cell_changed word block relations field_count kind_at mask_at base capacity_of replica_at clock_at used_at first_at next_at relation_at label_at flag_at value_at stamp_at each any from listed only some_of all_of times lowest block_rule empty_block broken relation_of schema_of relation_numbered has own at insert in_order distinct least_above position_from record_of decode follower encode_record encode_records encode_header encode header_rules firsts_rule empty_above field_rule record_rules counters_rule chain_from chain_of chain_step rises chains_rise on_chain rest_zero well_formed described stamped complete leads targets references equal_on conflict_on conflict live reached hop standing beaten kept_after kept grounded settled shown joined_with merged_records merged too_many changes delta_of edited_by new_label flag_of flag_only odd redoing spent supported values_rule new_record insertion record_at register_at with_register leading update_redoes update_conflict update deletion_redoes deletion schema_length table_length delta_length marks_length bad_index schema_number table_number values_number values_part values_first merge_number merge_table merge_changed marks_of marks_number marks_count marks_marks marked place_key walk_number walk_given walk_place edit_number edit_table edit_delta insertion_of insertion_number insertion_table insertion_delta update_of update_number update_table update_delta deletion_of deletion_number entry_at walked table_walked shown_list pad block_of herd header row same_words old_words
old_words_hold = refl
