-- The schema of the herd book is a good one, and the definitions compute the barn.
-- Assumes nothing.
use mathlib.Core.Path.{◌≡◌, refl}
use mathlib.Core.Bool.{true, false}
use lib.Count.{ones, ones_in}
use Rattle.crdt.specs.Labels.{is_label, label_within}
use Rattle.crdt.specs.Flags.{deleted, redone}
use Rattle.crdt.specs.Cells.{up_to, join_reg, join_regs, join_cell, join_opt}
use Rattle.model.specs.Layout.{word, block, relations, field_count, kind_at, mask_at, base, capacity_of, replica_at, clock_at, used_at, first_at, next_at, relation_at, label_at, flag_at, value_at, stamp_at}
use Rattle.model.specs.Lists.{each, any, from, listed, only, some_of, all_of, times, lowest}
use Rattle.model.specs.Schemas.{block_rule, empty_block, broken, relation_of, schema_of, relation_numbered}
use Rattle.model.specs.Records.{has, own, at, insert, in_order, distinct, least_above, position_from}
use Rattle.model.specs.Tables.{record_of, decode, follower, encode_record, encode_records, encode_header, encode}
use Rattle.model.specs.WellFormed.{header_rules, firsts_rule, empty_above, field_rule, record_rules, counters_rule, chain_from, chain_of, chain_step, rises, chains_rise, on_chain, rest_zero, well_formed}
use Rattle.model.specs.Shown.{described, stamped, complete, leads, targets, references, equal_on, conflict_on, conflict, live, reached, hop, standing, beaten, kept_after, kept, grounded, settled, shown}
use Rattle.model.specs.Merge.{joined_with, merged_records, merged}
use Rattle.model.specs.Edits.{delta_of, edited_by, new_label, flag_of, flag_only, odd, redoing, spent, supported, values_rule, new_record, insertion, record_at, register_at, with_register, leading, update_redoes, update_conflict, update, deletion_redoes, deletion}
use Rattle.model.specs.Calls.{schema_length, table_length, delta_length, marks_length, bad_index, schema_number, marks_of, marks_number, marks_count, marks_marks, edit_number, edit_table, insertion_of, insertion_number, insertion_label, update_of, deletion_of}
use Rattle.model.specs.Cases.{pad, header, row, same_words}
use Rattle.model.specs.Book.{book, book_block, of_kind, change_of, change_number, change_table, strike_of, strike_number, strike_table, find_number, is_shown, find_index}
use Rattle.model.specs.Barn.{past_the_labels, keys_of_cows}

pub book_good : broken book ≡ false
unfolding each word block relations field_count kind_at mask_at block_rule empty_block broken book_block book ones
book_good = refl

pub book_long : schema_length book ≡ true
unfolding schema_length book_block book
book_long = refl

pub book_number : schema_number book ≡ 0
unfolding each word block relations field_count kind_at mask_at lowest block_rule empty_block broken schema_length schema_number book_block book ones
book_number = refl

pub past_the_labels_holds : past_the_labels ≡ true
unfolding ones ones_in is_label deleted redone up_to join_reg join_regs join_cell join_opt word block relations field_count kind_at mask_at base capacity_of replica_at clock_at used_at first_at next_at relation_at label_at flag_at value_at stamp_at each any from listed only some_of all_of times lowest block_rule empty_block broken relation_of schema_of relation_numbered has own at insert in_order distinct least_above position_from record_of decode follower encode_record encode_records encode_header encode header_rules firsts_rule empty_above field_rule record_rules counters_rule chain_from chain_of chain_step rises chains_rise on_chain rest_zero well_formed described stamped complete leads targets references equal_on conflict_on conflict live reached hop standing beaten kept_after kept grounded settled shown joined_with merged_records merged delta_of edited_by new_label flag_of flag_only odd redoing spent supported values_rule new_record insertion record_at register_at with_register leading update_redoes update_conflict update deletion_redoes deletion schema_length table_length delta_length marks_length bad_index schema_number marks_of marks_number marks_count marks_marks edit_number edit_table insertion_of insertion_number insertion_label update_of deletion_of pad header row same_words book book_block of_kind change_of change_number change_table strike_of strike_number strike_table find_number is_shown find_index past_the_labels
past_the_labels_holds = refl

pub keys_of_cows_hold : keys_of_cows ≡ true
unfolding ones ones_in is_label deleted redone up_to join_reg join_regs join_cell join_opt word block relations field_count kind_at mask_at base capacity_of replica_at clock_at used_at first_at next_at relation_at label_at flag_at value_at stamp_at each any from listed only some_of all_of times lowest block_rule empty_block broken relation_of schema_of relation_numbered has own at insert in_order distinct least_above position_from record_of decode follower encode_record encode_records encode_header encode header_rules firsts_rule empty_above field_rule record_rules counters_rule chain_from chain_of chain_step rises chains_rise on_chain rest_zero well_formed described stamped complete leads targets references equal_on conflict_on conflict live reached hop standing beaten kept_after kept grounded settled shown joined_with merged_records merged delta_of edited_by new_label flag_of flag_only odd redoing spent supported values_rule new_record insertion record_at register_at with_register leading update_redoes update_conflict update deletion_redoes deletion schema_length table_length delta_length marks_length bad_index schema_number marks_of marks_number marks_count marks_marks edit_number edit_table insertion_of insertion_number insertion_label update_of deletion_of pad header row same_words book book_block of_kind change_of change_number change_table strike_of strike_number strike_table find_number is_shown find_index keys_of_cows
keys_of_cows_hold = refl
