-- The definitions compute the examples of what a merge counts.
-- Assumes nothing.
use mathlib.Core.Path.{◌≡◌, refl}
use mathlib.Core.Bool.{true}
use lib.Count.{ones, ones_in}
use Rattle.crdt.specs.Labels.{is_label}
use Rattle.crdt.specs.Cells.{up_to, join_reg, join_regs, join_cell, join_opt, reg_changed, regs_changed, cell_changed}
use Rattle.model.specs.Layout.{word, block, relations, field_count, kind_at, mask_at, base, capacity_of, replica_at, clock_at, used_at, first_at, next_at, relation_at, label_at, flag_at, value_at, stamp_at}
use Rattle.model.specs.Lists.{each, any, from, listed, only, some_of, all_of, lowest}
use Rattle.model.specs.Schemas.{block_rule, empty_block, broken, relation_of, schema_of}
use Rattle.model.specs.Records.{has, own, at, insert, in_order, distinct, least_above, position_from}
use Rattle.model.specs.Tables.{record_of, decode, follower, encode_record, encode_records, encode_header, encode}
use Rattle.model.specs.WellFormed.{header_rules, firsts_rule, empty_above, field_rule, record_rules, counters_rule, chain_from, chain_of, chain_step, rises, chains_rise, on_chain, rest_zero, well_formed}
use Rattle.model.specs.Merge.{joined_with, merged_records, merged, too_many, changes}
use Rattle.model.specs.Calls.{schema_length, table_length, merge_number, merge_table, merge_changed}
use Rattle.model.specs.Cases.{pad, block_of, herd, header, row}
use Rattle.model.specs.Changed.{figures}

pub figures_hold : figures ≡ true
unfolding ones ones_in is_label up_to join_reg join_regs join_cell join_opt reg_changed regs_changed cell_changed word block relations field_count kind_at mask_at base capacity_of replica_at clock_at used_at first_at next_at relation_at label_at flag_at value_at stamp_at each any from listed only some_of all_of lowest block_rule empty_block broken relation_of schema_of has own at insert in_order distinct position_from least_above record_of decode follower encode_record encode_records encode_header encode header_rules firsts_rule empty_above field_rule record_rules counters_rule chain_from chain_of chain_step rises chains_rise on_chain rest_zero well_formed joined_with merged_records merged too_many changes schema_length table_length merge_number merge_table merge_changed pad block_of herd header row figures
figures_hold = refl
