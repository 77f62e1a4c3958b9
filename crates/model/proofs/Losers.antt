-- The definitions compute the examples of step 3 with two keys.
-- Assumes nothing.
use mathlib.Core.Path.{◌≡◌, refl}
use mathlib.Core.Bool.{true}
use lib.Count.{ones, ones_in}
use Rattle.crdt.specs.Labels.{is_label, label_within}
use Rattle.model.specs.Layout.{word, block, relations, field_count, kind_at, mask_at, base, capacity_of, replica_at, clock_at, used_at, first_at, next_at, relation_at, label_at, flag_at, value_at, stamp_at}
use Rattle.model.specs.Lists.{each, any, from, listed, only, some_of, all_of, times, lowest}
use Rattle.model.specs.Schemas.{block_rule, empty_block, broken, relation_of, schema_of, relation_numbered}
use Rattle.model.specs.Records.{has, own, at, insert, in_order, distinct, least_above, position_from}
use Rattle.model.specs.Tables.{record_of, decode}
use Rattle.model.specs.WellFormed.{header_rules, firsts_rule, empty_above, field_rule, record_rules, counters_rule, chain_from, chain_of, chain_step, rises, chains_rise, on_chain, rest_zero, well_formed}
use Rattle.model.specs.Shown.{described, stamped, complete, leads, targets, references, equal_on, conflict_on, conflict, live, reached, hop, standing, beaten, kept_after, kept, grounded, settled, shown}
use Rattle.model.specs.Edits.{delta_of, edited_by, new_label, flag_of, flag_only, odd, redoing, spent, supported, values_rule, new_record, insertion, record_at}
use Rattle.model.specs.Calls.{schema_length, table_length, delta_length, marks_length, bad_index, schema_number, table_number, marks_of, marks_number, marks_count, marks_marks, marked, place_key, walk_number, walk_given, walk_place, edit_number, insertion_of, insertion_number, entry_at, walked, table_walked, shown_list}
use Rattle.model.specs.Cases.{pad, header, row, same_words}
use Rattle.model.specs.Losers.{losers}

pub losers_hold : losers ≡ true
unfolding ones ones_in is_label label_within word block relations field_count kind_at mask_at base capacity_of replica_at clock_at used_at first_at next_at relation_at label_at flag_at value_at stamp_at each any from listed only some_of all_of times lowest block_rule empty_block broken relation_of schema_of relation_numbered has own at insert in_order distinct least_above position_from record_of decode header_rules firsts_rule empty_above field_rule record_rules counters_rule chain_from chain_of chain_step rises chains_rise on_chain rest_zero well_formed described stamped complete leads targets references equal_on conflict_on conflict live reached hop standing beaten kept_after kept grounded settled shown delta_of edited_by new_label flag_of flag_only odd redoing spent supported values_rule new_record insertion record_at schema_length table_length delta_length marks_length bad_index schema_number table_number marks_of marks_number marks_count marks_marks marked place_key walk_number walk_given walk_place edit_number insertion_of insertion_number entry_at walked table_walked shown_list pad header row same_words losers
losers_hold = refl
