-- The definitions compute the examples of which copy is ahead.
-- Assumes nothing.
use mathlib.Core.Path.{◌≡◌, refl}
use mathlib.Core.Bool.{true}
use lib.Count.{ones, ones_in}
use Rattle.crdt.specs.Labels.{is_label}
use Rattle.crdt.specs.Cells.{up_to, join_reg, join_regs, join_cell, join_opt}
use Rattle.model.specs.Layout.{word, block, relations, field_count, kind_at, mask_at, base, capacity_of, replica_at, clock_at, used_at, first_at, next_at, relation_at, label_at, flag_at, value_at, stamp_at}
use Rattle.model.specs.Lists.{each, any, from, listed, only, some_of, all_of, lowest}
use Rattle.model.specs.Schemas.{block_rule, empty_block, broken}
use Rattle.model.specs.Records.{has, own, at, insert, in_order, join}
use Rattle.model.specs.Tables.{record_of, decode, contents}
use Rattle.model.specs.WellFormed.{header_rules, firsts_rule, empty_above, field_rule, record_rules, counters_rule, chain_from, chain_of, chain_step, rises, chains_rise, on_chain, rest_zero, well_formed}
use Rattle.model.specs.Merge.{joined_with, merged_records, too_many}
use Rattle.model.specs.Calls.{schema_length, table_length, merge_number}
use Rattle.model.specs.Compare.{join_contents, same_regs, same_recs, same_contents, compared, compare_number, compare_verdict}
use Rattle.model.specs.Cases.{pad, block_of, herd, header, row}
use Rattle.model.specs.Copies.{verdicts}

pub verdicts_hold : verdicts ≡ true
unfolding ones ones_in is_label up_to join_reg join_regs join_cell join_opt word block relations field_count kind_at mask_at base capacity_of replica_at clock_at used_at first_at next_at relation_at label_at flag_at value_at stamp_at each any from listed only some_of all_of lowest block_rule empty_block broken has own at insert in_order join record_of decode contents header_rules firsts_rule empty_above field_rule record_rules counters_rule chain_from chain_of chain_step rises chains_rise on_chain rest_zero well_formed joined_with merged_records too_many schema_length table_length merge_number join_contents same_regs same_recs same_contents compared compare_number compare_verdict pad block_of herd header row verdicts
verdicts_hold = refl
