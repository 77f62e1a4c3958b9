-- The definitions compute document 01's example.
-- Assumes nothing.
use mathlib.Core.Path.{◌≡◌, refl}
use lib.Count.{ones, ones_in}
use Rattle.crdt.specs.Labels.{is_label, label_within}
use Rattle.crdt.specs.Cells.{up_to, join_reg, join_regs, join_cell, join_opt}
use Rattle.model.specs.Layout.{word, block, relations, field_count, kind_at, mask_at, base, capacity_of, replica_at, clock_at, used_at, first_at, next_at, relation_at, label_at, flag_at, value_at, stamp_at}
use Rattle.model.specs.Lists.{each, any, from, listed, only, some_of, all_of, times, lowest}
use Rattle.model.specs.Schemas.{block_rule, empty_block, broken, relation_of, schema_of, relation_numbered}
use Rattle.model.specs.Records.{has, own, at, insert, in_order, join, distinct, least_above, position_from}
use Rattle.model.specs.Tables.{record_of, decode, follower, encode_record, encode_records, encode_header, encode, contents}
use Rattle.model.specs.WellFormed.{header_rules, firsts_rule, empty_above, field_rule, record_rules, counters_rule, chain_from, chain_of, chain_step, rises, chains_rise, on_chain, rest_zero, well_formed}
use Rattle.model.specs.Shown.{described, stamped, complete, leads, targets, references, equal_on, conflict_on, conflict, live, reached, hop, standing, beaten, kept_after, kept, grounded, settled, shown}
use Rattle.model.specs.Calls.{schema_length, table_length, marks_length, marks_of, marks_number, marks_count, marks_marks, marked, place_key, walk_number, walk_given, entry_at, walked, table_walked, shown_list}
use Rattle.model.specs.Cases.{pad, herd, header, row}
use Rattle.model.specs.Edits.{record_at}
use Rattle.list_text.specs.Text.{decimal_text, digits, label_text, reference_text, value_text, values_text, line_text, lines_text, told_text, refused_text, shown_text}
use Rattle.list.specs.Program.{answer_text}
use Rattle.list.specs.Example.{example_table, example_text}

pub example : answer_text herd example_table ≡ example_text
unfolding ones ones_in is_label label_within up_to join_reg join_regs join_cell join_opt word block relations field_count kind_at mask_at base capacity_of replica_at clock_at used_at first_at next_at relation_at label_at flag_at value_at stamp_at each any from listed only some_of all_of times lowest block_rule empty_block broken relation_of schema_of relation_numbered has own at insert in_order join distinct least_above position_from record_of decode follower encode_record encode_records encode_header encode contents header_rules firsts_rule empty_above field_rule record_rules counters_rule chain_from chain_of chain_step rises chains_rise on_chain rest_zero well_formed described stamped complete leads targets references equal_on conflict_on conflict live reached hop standing beaten kept_after kept grounded settled shown schema_length table_length marks_length marks_of marks_number marks_count marks_marks marked place_key walk_number walk_given entry_at walked table_walked shown_list pad herd header row record_at decimal_text digits label_text reference_text value_text values_text line_text lines_text told_text refused_text shown_text answer_text example_table
example = refl
