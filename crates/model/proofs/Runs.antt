-- The example list of calls is a run, and demand 3, applied to it, says that its tables agree: no hypothesis of the claim is out of reach, and no
-- conclusion is empty.
-- Assumes nothing.
use Prim.Native.Nat.{ℕ}
use mathlib.Core.Path.{◌≡◌, refl, sym}
use mathlib.Core.Bool.{Bool, true, false, cond, ◌||◌, ◌&&◌}
use mathlib.Core.List.{List, [], ◌∷◌, Memᴰ}
use mathlib.Core.Logic.{◌⊎◌, inl, inr}
use lib.Dec.{eqb}
use borrow.Author.Tests.{eqb-true, eq-eqb}
use Rattle.crdt.proofs.Tests.{clash, or_cases, and_left, and_right}
use lib.Count.{ones, ones_in}
use Rattle.crdt.specs.Labels.{is_label, label_within}
use Rattle.crdt.specs.Flags.{deleted, redone}
use Rattle.crdt.specs.Cells.{up_to, join_reg, join_regs, join_cell, join_opt}
use Rattle.model.specs.Layout.{word, block, relations, field_count, kind_at, mask_at, base, capacity_of, replica_at, clock_at, used_at, first_at, next_at, relation_at, label_at, flag_at, value_at, stamp_at}
use Rattle.model.specs.Lists.{each, any, from, listed, only, some_of, all_of, times, lowest}
use Rattle.model.specs.Schemas.{block_rule, empty_block, broken, relation_of, schema_of, relation_numbered}
use Rattle.model.specs.Records.{has, own, at, insert, in_order, join, distinct, least_above, position_from}
use Rattle.model.specs.Tables.{record_of, decode, follower, encode_record, encode_records, encode_header, encode, contents}
use Rattle.model.specs.WellFormed.{header_rules, firsts_rule, empty_above, field_rule, record_rules, counters_rule, chain_from, chain_of, chain_step, rises, chains_rise, on_chain, rest_zero, well_formed}
use Rattle.model.specs.Shown.{described, stamped, complete, leads, targets, references, equal_on, conflict_on, conflict, live, reached, hop, standing, beaten, kept_after, kept, grounded, settled, shown}
use Rattle.model.specs.Merge.{joined_with, merged_records, merged, too_many}
use Rattle.model.specs.Edits.{delta_of, edited_by, new_label, flag_of, flag_only, odd, redoing, spent, supported, values_rule, new_record, insertion, record_at, register_at, with_register, leading, update_redoes, update_conflict, update, deletion_redoes, deletion}
use Rattle.model.specs.Calls.{schema_length, table_length, delta_length, marks_length, bad_index, schema_number, table_number, start_number, start_table, values_number, values_part, merge_number, merge_table, marks_of, marks_number, marks_count, marks_marks, marked, place_key, walk_number, walk_given, walk_place, edit_number, edit_table, edit_delta, insertion_of, insertion_number, insertion_label, insertion_table, insertion_delta, update_of, update_number, update_table, update_delta, deletion_of, deletion_number, deletion_table, deletion_delta, entry_at, walked, table_walked, shown_list}
use Rattle.model.specs.Runs.{Run, Moment, ago, after_call, next, history, begun}
use Rattle.model.specs.Demand.{SameEdits, SameRecords, RunsConverge}
use Rattle.model.specs.Cases.{pad, block_of, herd, header, row, same_words, same_entries}
use Rattle.model.specs.Examples.{blank, answer_of, answers, first, replicas, at_end, blanks, other, calls, expected, took_at_end, within, listed_at_end, agree, runs, crossing, crosses, chain_schema, hops, last_clock}
use Rattle.model.specs.Compare.{same_regs, same_recs}

-- A refused call may be lent any schema and any words.
pub refused : {A : Type 0} (n : ℕ) → eqb n 0 ≡ false → n ≡ 0 → A
refused n e z = clash (eq-eqb n 0 z) e

pub example_run : Run herd first calls
unfolding blank ones ones_in is_label label_within deleted redone up_to join_reg join_regs join_cell join_opt word block relations field_count kind_at mask_at base capacity_of replica_at clock_at used_at first_at next_at relation_at label_at flag_at value_at stamp_at each any from listed only some_of all_of times lowest block_rule empty_block broken relation_of schema_of relation_numbered has own at insert in_order join distinct least_above position_from record_of decode follower encode_record encode_records encode_header encode contents header_rules firsts_rule empty_above field_rule record_rules counters_rule chain_from chain_of chain_step rises chains_rise on_chain rest_zero well_formed described stamped complete leads targets references equal_on conflict_on conflict live reached hop standing beaten kept_after kept grounded settled shown joined_with merged_records merged too_many delta_of edited_by new_label flag_of flag_only odd redoing spent supported values_rule new_record insertion record_at register_at with_register leading update_redoes update_conflict update deletion_redoes deletion schema_length table_length delta_length marks_length bad_index schema_number table_number start_number start_table values_number values_part merge_number merge_table marks_of marks_number marks_count marks_marks marked place_key walk_number walk_given walk_place edit_number edit_table edit_delta insertion_of insertion_number insertion_label insertion_table insertion_delta update_of update_number update_table update_delta deletion_of deletion_number deletion_table deletion_delta entry_at walked table_walked shown_list after_call next history begun pad block_of herd header row same_words same_entries answer_of answers blanks other calls expected took_at_end same_regs same_recs within listed_at_end agree runs crossing crosses chain_schema hops
example_run = (
  refused _ refl,
  (
    λ _. refl,
    (
      λ _. refl,
      (
        λ _. refl,
        (
          refused _ refl,
          (
            λ _. refl,
            (
              λ _. refl,
              (
                λ _. refl,
                (
                  λ _. refl,
                  (
                    λ _. refl,
                    (
                      tt,
                      (λ _. refl, (λ _. refl, (λ _. refl, (λ _. refl, (λ _. refl, (λ _. refl, (λ _. refl, (λ _. refl, tt)))))))),
                    ),
                  ),
                ),
              ),
            ),
          ),
        ),
      ),
    ),
  ),
)

-- Every table of the fleet begins as an accepted start leaves it.
pub example_starts : (i : ℕ) → start_number (blanks i) (replicas i) ≡ 0
unfolding blank ones ones_in is_label label_within deleted redone up_to join_reg join_regs join_cell join_opt word block relations field_count kind_at mask_at base capacity_of replica_at clock_at used_at first_at next_at relation_at label_at flag_at value_at stamp_at each any from listed only some_of all_of times lowest block_rule empty_block broken relation_of schema_of relation_numbered has own at insert in_order join distinct least_above position_from record_of decode follower encode_record encode_records encode_header encode contents header_rules firsts_rule empty_above field_rule record_rules counters_rule chain_from chain_of chain_step rises chains_rise on_chain rest_zero well_formed described stamped complete leads targets references equal_on conflict_on conflict live reached hop standing beaten kept_after kept grounded settled shown joined_with merged_records merged too_many delta_of edited_by new_label flag_of flag_only odd redoing spent supported values_rule new_record insertion record_at register_at with_register leading update_redoes update_conflict update deletion_redoes deletion schema_length table_length delta_length marks_length bad_index schema_number table_number start_number start_table values_number values_part merge_number merge_table marks_of marks_number marks_count marks_marks marked place_key walk_number walk_given walk_place edit_number edit_table edit_delta insertion_of insertion_number insertion_label insertion_table insertion_delta update_of update_number update_table update_delta deletion_of deletion_number deletion_table deletion_delta entry_at walked table_walked shown_list after_call next history begun pad block_of herd header row same_words same_entries answer_of answers blanks other calls expected took_at_end same_regs same_recs within listed_at_end agree runs crossing crosses chain_schema hops
example_starts i = go (eqb i 3) (eqb i 2) (eqb i 1)
  where
    go : (a b c : Bool) → start_number (cond a (blank 2) (cond b (blank 3) (blank 4))) (cond c 2 1) ≡ 0
    go true b true = refl
    go true b false = refl
    go false true true = refl
    go false true false = refl
    go false false true = refl
    go false false false = refl

-- Of two lists of edits, by test: the same edits.
found : (n : ℕ) (m : List ℕ) → some_of (λ k. eqb n k) m ≡ true → Memᴰ n m
unfolding some_of
found n [] h = clash h refl
found n (k ∷ m) h = go (or_cases (eqb n k) (some_of (λ j. eqb n j) m) h) (found n m)
  where
    go : (eqb n k ≡ true) ⊎ (some_of (λ j. eqb n j) m ≡ true) → (some_of (λ j. eqb n j) m ≡ true → Memᴰ n m) → Memᴰ n (k ∷ m)
    go (inl e) f = Memᴰ.head (eqb-true n k e)
    go (inr e) f = Memᴰ.tail (f e)

within_found : (l m : List ℕ) → within l m ≡ true → (n : ℕ) → Memᴰ n l → Memᴰ n m
unfolding within all_of
within_found [] m h n x = elim x [ ]
within_found (k ∷ l) m h n (Memᴰ.head e) = let g : some_of (λ j. eqb n j) m ≡ true = rw e (and_left (some_of (λ j. eqb k j) m) (within l m) h) in found n m g
within_found (k ∷ l) m h n (Memᴰ.tail d) = within_found l m (and_right (some_of (λ j. eqb k j) m) (within l m) h) n d

pub same_edits : (l m : List ℕ) → (within l m && within m l) ≡ true → SameEdits l m
same_edits l m h = (within_found l m (and_left (within l m) (within m l) h), within_found m l (and_right (within l m) (within m l) h))

-- Of the example run: its schema, and that tables 0 and 2 took in the same edits.
example_schema : schema_number herd ≡ 0
unfolding blank ones ones_in is_label label_within deleted redone up_to join_reg join_regs join_cell join_opt word block relations field_count kind_at mask_at base capacity_of replica_at clock_at used_at first_at next_at relation_at label_at flag_at value_at stamp_at each any from listed only some_of all_of times lowest block_rule empty_block broken relation_of schema_of relation_numbered has own at insert in_order join distinct least_above position_from record_of decode follower encode_record encode_records encode_header encode contents header_rules firsts_rule empty_above field_rule record_rules counters_rule chain_from chain_of chain_step rises chains_rise on_chain rest_zero well_formed described stamped complete leads targets references equal_on conflict_on conflict live reached hop standing beaten kept_after kept grounded settled shown joined_with merged_records merged too_many delta_of edited_by new_label flag_of flag_only odd redoing spent supported values_rule new_record insertion record_at register_at with_register leading update_redoes update_conflict update deletion_redoes deletion schema_length table_length delta_length marks_length bad_index schema_number table_number start_number start_table values_number values_part merge_number merge_table marks_of marks_number marks_count marks_marks marked place_key walk_number walk_given walk_place edit_number edit_table edit_delta insertion_of insertion_number insertion_label insertion_table insertion_delta update_of update_number update_table update_delta deletion_of deletion_number deletion_table deletion_delta entry_at walked table_walked shown_list after_call next history begun pad block_of herd header row same_words same_entries answer_of answers blanks other calls expected took_at_end same_regs same_recs within listed_at_end agree runs crossing crosses chain_schema hops
example_schema = refl

example_same : (within (at_end.took 0) (at_end.took 2) && within (at_end.took 2) (at_end.took 0)) ≡ true
unfolding blank ones ones_in is_label label_within deleted redone up_to join_reg join_regs join_cell join_opt word block relations field_count kind_at mask_at base capacity_of replica_at clock_at used_at first_at next_at relation_at label_at flag_at value_at stamp_at each any from listed only some_of all_of times lowest block_rule empty_block broken relation_of schema_of relation_numbered has own at insert in_order join distinct least_above position_from record_of decode follower encode_record encode_records encode_header encode contents header_rules firsts_rule empty_above field_rule record_rules counters_rule chain_from chain_of chain_step rises chains_rise on_chain rest_zero well_formed described stamped complete leads targets references equal_on conflict_on conflict live reached hop standing beaten kept_after kept grounded settled shown joined_with merged_records merged too_many delta_of edited_by new_label flag_of flag_only odd redoing spent supported values_rule new_record insertion record_at register_at with_register leading update_redoes update_conflict update deletion_redoes deletion schema_length table_length delta_length marks_length bad_index schema_number table_number start_number start_table values_number values_part merge_number merge_table marks_of marks_number marks_count marks_marks marked place_key walk_number walk_given walk_place edit_number edit_table edit_delta insertion_of insertion_number insertion_label insertion_table insertion_delta update_of update_number update_table update_delta deletion_of deletion_number deletion_table deletion_delta entry_at walked table_walked shown_list after_call next history begun pad block_of herd header row same_words same_entries answer_of answers blanks other calls expected took_at_end same_regs same_recs within listed_at_end agree runs crossing crosses chain_schema hops
example_same = refl

-- Demand 3, applied to the example run: tables 0 and 2, which took in the same edits, have the same records and show the same list.
pub example_agrees : RunsConverge → SameRecords (at_end.fleet 0) (at_end.fleet 2) × (shown_list herd (at_end.fleet 0) ≡ shown_list herd (at_end.fleet 2))
example_agrees claim = (claim herd example_schema blanks replicas example_starts calls example_run).agree 0 2 (same_edits (at_end.took 0) (at_end.took 2) example_same)
