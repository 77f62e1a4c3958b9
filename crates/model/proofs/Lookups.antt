-- The definitions compute the examples of a record looked up.
-- Assumes nothing.
use mathlib.Core.Path.{◌≡◌, refl}
use mathlib.Core.Bool.{true}
use lib.Count.{ones, ones_in}
use native.Mathlib.Omega.{arith}
use Rattle.crdt.specs.Labels.{label_of, is_label}
use Rattle.model.specs.Layout.{word, block, relations, field_count, kind_at, mask_at, base, capacity_of, replica_at, clock_at, used_at, first_at, next_at, relation_at, label_at, flag_at, value_at, stamp_at}
use Rattle.model.specs.Lists.{each, any, some_of, all_of, lowest}
use Rattle.model.specs.Schemas.{block_rule, empty_block, broken}
use Rattle.model.specs.WellFormed.{header_rules, firsts_rule, empty_above, field_rule, record_rules, counters_rule, chain_from, chain_of, chain_step, rises, chains_rise, on_chain, rest_zero, well_formed}
use Rattle.model.specs.Calls.{schema_length, table_length, table_number}
use Rattle.model.specs.Lookup.{read_rule, seek_from, lookup_seek, lookup_number, lookup_known, lookup_index, OnWay, first, next}
use Rattle.model.specs.Cases.{pad, block_of, herd, header, row}
use Rattle.model.specs.Lookups.{back, lookups, damages_seen, refusals_ordered}

pub lookups_hold : lookups ≡ true
unfolding ones ones_in is_label word block relations field_count kind_at mask_at base capacity_of replica_at clock_at used_at first_at next_at relation_at label_at flag_at value_at stamp_at each any some_of all_of lowest block_rule empty_block broken header_rules firsts_rule empty_above field_rule record_rules counters_rule chain_from chain_of chain_step rises chains_rise on_chain rest_zero well_formed schema_length table_length table_number read_rule seek_from lookup_seek lookup_number lookup_known lookup_index pad block_of herd header row lookups
lookups_hold = refl

pub damages_seen_hold : damages_seen ≡ true
unfolding ones ones_in is_label word block relations field_count kind_at mask_at base capacity_of replica_at clock_at used_at first_at next_at relation_at label_at flag_at value_at stamp_at each any some_of all_of lowest block_rule empty_block broken header_rules firsts_rule empty_above field_rule record_rules counters_rule chain_step schema_length table_length read_rule seek_from lookup_seek lookup_number lookup_known lookup_index pad block_of herd header row back damages_seen
damages_seen_hold = refl

pub refusals_ordered_hold : refusals_ordered ≡ true
unfolding ones ones_in is_label word block relations field_count kind_at mask_at base capacity_of replica_at clock_at used_at first_at next_at relation_at label_at flag_at value_at stamp_at each any some_of all_of lowest block_rule empty_block broken header_rules firsts_rule empty_above field_rule record_rules counters_rule chain_step schema_length table_length read_rule seek_from lookup_seek lookup_number lookup_known lookup_index pad block_of herd header row refusals_ordered
refusals_ordered_hold = refl

-- a record on the way twice: the oldest cow, first and after the youngest
pub back_twice : OnWay herd back 2 (label_of 7 1) 0 2 × OnWay herd back 2 (label_of 7 1) (label_of 6 1) 2
unfolding ones ones_in is_label word block relations field_count kind_at mask_at base capacity_of replica_at clock_at used_at first_at next_at relation_at label_at flag_at value_at stamp_at each any some_of all_of lowest field_rule record_rules counters_rule chain_step read_rule pad block_of herd header row back
back_twice =
    let a : OnWay herd back 2 (label_of 7 1) 0 2 = first (omega arith) in
    (a, next (label_of 4 1) 3 (next (label_of 2 1) 4 (next 0 2 a refl (omega arith) (omega arith)) refl (omega arith) (omega arith)) refl (omega arith) (omega arith))
