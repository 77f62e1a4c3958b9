-- What computed examples unfold, in groups: to unfold a group is to unfold all that its line names.
-- Assumes nothing.
use lib.Count.{ones, ones_in}
use Rattle.crdt.specs.Labels.{is_label, label_within}
use Rattle.crdt.specs.Flags.{deleted, redone}
use Rattle.crdt.specs.Cells.{up_to, join_reg, join_regs, join_cell, join_opt}
use Rattle.model.specs.Layout.{word, block, relations, field_count, kind_at, mask_at, base, capacity_of, replica_at, clock_at, used_at, first_at}
use Rattle.model.specs.Layout.{next_at, relation_at, label_at, flag_at, value_at, stamp_at}
use Rattle.model.specs.Lists.{each, any, from, listed, only, some_of, all_of, times, lowest}
use Rattle.model.specs.Schemas.{block_rule, empty_block, broken, relation_of, schema_of, relation_numbered}
use Rattle.model.specs.Records.{has, own, at, insert, in_order, distinct, least_above, position_from}
use Rattle.model.specs.Tables.{record_of, decode, follower, encode_record, encode_records, encode_header, encode}
use Rattle.model.specs.WellFormed.{header_rules, firsts_rule, empty_above, field_rule, record_rules, counters_rule, chain_from, chain_of, chain_step}
use Rattle.model.specs.WellFormed.{rises, chains_rise, on_chain, rest_zero, well_formed}
use Rattle.model.specs.Shown.{described, stamped, complete, leads, targets, references, equal_on, conflict_on, conflict, live, reached, hop}
use Rattle.model.specs.Shown.{standing, beaten, kept_after, kept, grounded, settled, shown}
use Rattle.model.specs.Merge.{joined_with, merged_records, merged, too_many}
use Rattle.model.specs.Edits.{delta_of, edited_by, new_label, flag_of, flag_only, odd, redoing, spent, supported, record_at, register_at, with_register}
use Rattle.model.specs.Edits.{leading, update_redoes, update_conflict, update, deletion_redoes, deletion, values_rule, new_record, insertion}
use Rattle.model.specs.Calls.{schema_length, table_length, delta_length, marks_length, bad_index, schema_number, table_number, marks_of, marks_number}
use Rattle.model.specs.Calls.{marks_marks, marks_count, marked, place_key, walk_number, walk_given, entry_at, walked, table_walked, shown_list}
use Rattle.model.specs.Calls.{edit_number, edit_table, edit_delta, update_of, update_number, deletion_of, deletion_number}
use Rattle.model.specs.Calls.{insertion_of, insertion_number, insertion_label, insertion_table, insertion_delta}
use Rattle.model.specs.Calls.{start_number, start_table, merge_number, merge_table}
use Rattle.model.specs.Runs.{after_call, next, begun}
use Rattle.model.specs.Lookup.{read_rule, seek_from, lookup_seek, lookup_number}
use Rattle.model.specs.Shapes.{block_in, count_in, kind_in, mask_in, base_in, capacity_in, next_in, relation_in, label_in, flag_in, value_in, stamp_in}
use Rattle.model.specs.Shapes.{schema_length_in, table_length_in, block_rule_in, empty_block_in, broken_in, header_rules_in, record_rules_in, counters_rule_in}
use Rattle.model.specs.Shapes.{chain_from_in, chain_in, chain_step_in, rises_in, chains_rise_in, on_chain_in, rest_zero_in, well_formed_in}
use Rattle.model.specs.Shapes.{rows_from, fields_turned, turned_block, turned_schema, turned_record, turned_table, too_wide, shape_lengths}
use Rattle.model.specs.Shapes.{widen_number, widen_schema, widen_table, narrow_number, narrow_schema, narrow_table}
use Rattle.model.specs.Cases.{pad, block_of, herd, header, row, same_words, same_entries}
use Rattle.model.specs.Examples.{blank, answer_of, within}
use Rattle.model.specs.Book.{book_block, book, of_kind, change_of, change_number, change_table, change_delta, strike_of, strike_number, strike_table, strike_delta}
use Rattle.model.specs.Book.{find_number, is_shown, find_index}
use Rattle.model.specs.BookRuns.{book_next, book_history}

-- Schema check.
unfoldable pub schema_parts : Unit {0}
unfolding word block relations field_count kind_at mask_at each all_of lowest ones ones_in block_rule empty_block broken schema_length schema_number
schema_parts = tt

-- A table's words, its rules and table check.
unfoldable pub word_parts : Unit {0}
unfolding base capacity_of replica_at clock_at used_at first_at next_at relation_at label_at flag_at value_at stamp_at pad header row same_words
word_parts = tt

unfoldable pub rule_parts : Unit {0}
unfolding any some_of is_label header_rules firsts_rule empty_above field_rule record_rules counters_rule chain_from chain_of chain_step rises chains_rise on_chain rest_zero well_formed
rule_parts = tt

unfoldable pub table_parts : Unit {0}
unfolding schema_parts word_parts rule_parts table_length table_number
table_parts = tt

unfoldable pub lookup_parts : Unit {0}
unfolding table_parts read_rule seek_from lookup_seek lookup_number
lookup_parts = tt

-- The same words and rules by the number of fields, and what turns them.
unfoldable pub form_parts : Unit {0}
unfolding block_in count_in kind_in mask_in base_in capacity_in next_in relation_in label_in flag_in value_in stamp_in schema_length_in table_length_in
form_parts = tt

unfoldable pub form_rule_parts : Unit {0}
unfolding block_rule_in empty_block_in broken_in header_rules_in record_rules_in counters_rule_in chain_from_in chain_in chain_step_in rises_in chains_rise_in on_chain_in rest_zero_in well_formed_in
form_rule_parts = tt

unfoldable pub turned_parts : Unit {0}
unfolding from listed rows_from fields_turned turned_block turned_schema turned_record turned_table too_wide shape_lengths
turned_parts = tt

unfoldable pub turn_parts : Unit {0}
unfolding table_parts form_parts form_rule_parts turned_parts block_of herd widen_number widen_schema widen_table narrow_number narrow_schema narrow_table
turn_parts = tt

-- Records, the four steps, and the list.
unfoldable pub record_parts : Unit {0}
unfolding from listed only times relation_of schema_of relation_numbered has own at insert in_order least_above position_from record_of decode join_opt record_at
record_parts = tt

unfoldable pub step_parts : Unit {0}
unfolding described stamped complete leads targets references equal_on conflict_on conflict live reached hop standing beaten kept_after kept grounded settled shown
step_parts = tt

unfoldable pub list_parts : Unit {0}
unfolding table_parts record_parts step_parts marks_length marks_of marks_number marks_marks marked place_key walk_number walk_given entry_at walked table_walked shown_list
list_parts = tt

-- Updates and deletions, and strikes in the herd book.
unfoldable pub merge_parts : Unit {0}
unfolding follower encode_record encode_records encode_header encode up_to join_reg join_regs join_cell joined_with merged_records merged
merge_parts = tt

unfoldable pub change_parts : Unit {0}
unfolding delta_of edited_by new_label label_within deleted redone flag_of flag_only odd redoing spent supported register_at with_register leading
change_parts = tt

unfoldable pub edit_parts : Unit {0}
unfolding list_parts merge_parts change_parts update_redoes update_conflict update deletion_redoes deletion delta_length bad_index edit_number edit_table update_of update_number deletion_of deletion_number
edit_parts = tt

unfoldable pub strike_parts : Unit {0}
unfolding edit_parts book_block book of_kind strike_of strike_number strike_table
strike_parts = tt

-- Insertions, the other calls of the herd book, and its runs.
unfoldable pub insertion_parts : Unit {0}
unfolding edit_parts distinct edit_delta values_rule new_record insertion insertion_of insertion_number insertion_label insertion_table insertion_delta
insertion_parts = tt

unfoldable pub book_parts : Unit {0}
unfolding strike_parts insertion_parts strike_delta change_of change_number change_table change_delta marks_count find_number is_shown find_index
book_parts = tt

unfoldable pub run_parts : Unit {0}
unfolding book_parts same_entries blank start_number start_table too_many merge_number merge_table after_call next begun answer_of within book_next book_history
run_parts = tt
