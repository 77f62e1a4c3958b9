-- What the parts of demand 3 say: the laws of merge applied to tables, and lists that the claims about keys and references rule out. A part that is
-- weakened breaks its theorem here.
-- Assumes nothing.
use Prim.Native.Nat.{ℕ, ◌≤◌, ◌<◌}
use mathlib.Core.Path.{◌≡◌, refl, subst}
use mathlib.Core.Bool.{Bool, true, false}
use mathlib.Core.List.{List, [], ◌∷◌}
use mathlib.Core.Logic.{◌⊎◌, inl, inr}
use native.Mathlib.Omega.{arith}
use lib.ListN.{length, replicate}
use Rattle.crdt.proofs.Tests.{clash}
use lib.Count.{ones, ones_in}
use Rattle.crdt.specs.Labels.{is_label, label_within}
use Rattle.crdt.specs.Flags.{deleted, redone}
use Rattle.crdt.specs.Cells.{up_to, join_reg, join_regs, join_cell, join_opt}
use Rattle.model.specs.Layout.{word, block, relations, field_count, kind_at, mask_at, base, capacity_of, replica_at, clock_at, used_at, first_at, next_at, relation_at, label_at, flag_at, value_at, stamp_at}
use Rattle.model.specs.Lists.{each, any, from, listed, only, some_of, all_of, times, lowest}
use Rattle.model.specs.Schemas.{is_reference, block_rule, empty_block, broken, relation_of, schema_of, relation_numbered}
use Rattle.model.specs.Records.{has, own, at, insert, in_order, join, distinct, least_above, position_from}
use Rattle.model.specs.Tables.{record_of, decode, follower, encode_record, encode_records, encode_header, encode, contents}
use Rattle.model.specs.WellFormed.{header_rules, firsts_rule, empty_above, field_rule, record_rules, counters_rule, chain_from, chain_of, chain_step, rises, chains_rise, on_chain, rest_zero, well_formed}
use Rattle.model.specs.Shown.{described, stamped, complete, leads, targets, references, equal_on, conflict_on, conflict, live, reached, hop, standing, beaten, kept_after, kept, grounded, settled, shown}
use Rattle.model.specs.Merge.{joined_with, merged_records, merged, too_many}
use Rattle.model.specs.Edits.{delta_of, edited_by, new_label, flag_of, flag_only, odd, redoing, spent, supported, values_rule, new_record, insertion, record_at, register_at, with_register, leading, update_redoes, update_conflict, update, deletion_redoes, deletion}
use Rattle.model.specs.Calls.{schema_length, table_length, delta_length, marks_length, bad_index, schema_number, table_number, start_number, start_table, values_number, values_part, merge_number, merge_table, marks_of, marks_number, marks_count, marks_marks, marked, place_key, walk_number, walk_given, walk_place, edit_number, edit_table, edit_delta, insertion_of, insertion_number, insertion_label, insertion_table, insertion_delta, update_of, update_number, update_table, update_delta, deletion_of, deletion_number, deletion_table, deletion_delta, entry_at, walked, table_walked, shown_list}
use Rattle.model.specs.Runs.{Moment, ago, after_call, next, history, begun}
use Rattle.model.specs.Demand.{Commutative, Associative, Idempotent, entry, value_in, Apart, KeysOnce, ReferencesFound, SameEdits, Listed, Converged, Demand3}
use Rattle.model.specs.Cases.{pad, block_of, herd, header, row, same_words, same_entries}
use Rattle.model.specs.Examples.{of_group, of_cow, of_groups, two_alike, dangling, blank, answer_of, answers, first, replicas, at_end, blanks, other, calls, expected, took_at_end, within, listed_at_end, agree, runs, crossing, crosses, chain_schema, hops, last_clock}
use Rattle.model.specs.Compare.{same_regs, same_recs}

-- 0 and 11 are different answers.
apart : {X : Type 0} {n : ℕ} → n ≡ 0 → n ≡ 11 → X
apart p q = absurd (omega (arith, p, q))

-- Merging one way answers as merging the other way, with equal contents where it is done.
pub commutative_means : (s a b : List ℕ) → Commutative s a b
    → (merge_number s a b ≡ 0 → (merge_number s b a ≡ 0) × (contents (merge_table s a b) ≡ contents (merge_table s b a))) × (merge_number s a b ≡ 11 → merge_number s b a ≡ 11)
commutative_means s a b (inl (p, q, e)) = (λ z. (q, e), λ z. apart p z)
commutative_means s a b (inr (p, q)) = (λ z. apart z p, λ z. q)

-- Where one side's merges are done, so are the other's, with equal contents.
pub associative_means : (s a b c : List ℕ) → Associative s a b c
    → (merge_number s a b ≡ 0 → merge_number s (merge_table s a b) c ≡ 0 → (merge_number s b c ≡ 0) × (merge_number s a (merge_table s b c) ≡ 0) × (contents (merge_table s (merge_table s a b) c) ≡ contents (merge_table s a (merge_table s b c))))
    × (merge_number s b c ≡ 0 → merge_number s a (merge_table s b c) ≡ 0 → (merge_number s a b ≡ 0) × (merge_number s (merge_table s a b) c ≡ 0))
associative_means s a b c (inl (p, q, u, v, e)) = (λ y z. (u, v, e), λ y z. (p, q))
associative_means s a b c (inr (p, q)) = (λ y z. left p y z, λ y z. right q y z)
  where
    left : {X : Type 0} → (merge_number s a b ≡ 11) ⊎ (merge_number s (merge_table s a b) c ≡ 11) → merge_number s a b ≡ 0 → merge_number s (merge_table s a b) c ≡ 0 → X
    left (inl e) y z = apart y e
    left (inr e) y z = apart z e

    right : {X : Type 0} → (merge_number s b c ≡ 11) ⊎ (merge_number s a (merge_table s b c) ≡ 11) → merge_number s b c ≡ 0 → merge_number s a (merge_table s b c) ≡ 0 → X
    right (inl e) y z = apart y e
    right (inr e) y z = apart z e

-- The laws of merge apply to tables: one pair merges, the other has no room.
pub laws_apply : Demand3
    → (contents (merge_table herd of_group of_cow) ≡ contents (merge_table herd of_cow of_group)) × (merge_number herd of_groups of_group ≡ 11)
    × Associative herd of_group of_cow of_groups × (merge_table herd of_cow of_cow ≡ of_cow)
unfolding of_group of_cow of_groups ones ones_in is_label label_within deleted redone up_to join_reg join_regs join_cell join_opt word block relations field_count kind_at mask_at base capacity_of replica_at clock_at used_at first_at next_at relation_at label_at flag_at value_at stamp_at each any from listed only some_of all_of times lowest block_rule empty_block broken relation_of schema_of relation_numbered has own at insert in_order join distinct least_above position_from record_of decode follower encode_record encode_records encode_header encode contents header_rules firsts_rule empty_above field_rule record_rules counters_rule chain_from chain_of chain_step rises chains_rise on_chain rest_zero well_formed described stamped complete leads targets references equal_on conflict_on conflict live reached hop standing beaten kept_after kept grounded settled shown joined_with merged_records merged too_many delta_of edited_by new_label flag_of flag_only odd redoing spent supported values_rule new_record insertion record_at register_at with_register leading update_redoes update_conflict update deletion_redoes deletion schema_length table_length delta_length marks_length bad_index schema_number table_number start_number start_table values_number values_part merge_number merge_table marks_of marks_number marks_count marks_marks marked place_key walk_number walk_given walk_place edit_number edit_table edit_delta insertion_of insertion_number insertion_label insertion_table insertion_delta update_of update_number update_table update_delta deletion_of deletion_number deletion_table deletion_delta entry_at walked table_walked shown_list after_call next history begun pad block_of herd header row same_words same_entries answer_of answers blanks other calls expected took_at_end same_regs same_recs within listed_at_end agree runs crossing crosses chain_schema hops
laws_apply d = (
  ((commutative_means herd of_group of_cow (d.commutative herd of_group of_cow refl refl refl)).0 refl).1,
  (commutative_means herd of_group of_groups (d.commutative herd of_group of_groups refl refl refl)).1 refl,
  d.associative herd of_group of_cow of_groups refl refl refl refl refl,
  (d.idempotent herd of_cow refl).1,
)

-- What is said of each table's list: the table is well-formed, the count of its marks is the list's length, and the walk ended.
pub listed_means : (s t : List ℕ) → Listed s t
    → (table_number s t ≡ 0) × ((m : List ℕ) → length m ≡ capacity_of t → marks_count s t m ≡ length (shown_list s t))
    × (walk_given s t (marks_marks s t (replicate (capacity_of t) 0)) (table_walked s t).stop ≡ 0)
    × KeysOnce s (shown_list s t) × ReferencesFound s (shown_list s t)
listed_means s t l = (l.formed, λ m e. (l.marked m e).1, l.ended.1, l.keys, l.references)

-- What is said of two tables that took in the same edits: equal contents but for the clock, and equal lists.
pub converged_means : (s : List ℕ) (m : Moment) → Converged s m → (i j : ℕ) → SameEdits (m.took i) (m.took j)
    → ((contents (m.fleet i)).records ≡ (contents (m.fleet j)).records) × (shown_list s (m.fleet i) ≡ shown_list s (m.fleet j))
converged_means s m c i j e = c.agree i j e

-- "no key free of empty references occurs twice" rules out two groups of one name.
alike : Apart herd 1 1 (entry two_alike 0) (entry two_alike 1) → ⊥
unfolding of_group of_cow of_groups ones ones_in is_label label_within deleted redone up_to join_reg join_regs join_cell join_opt word block relations field_count kind_at mask_at base capacity_of replica_at clock_at used_at first_at next_at relation_at label_at flag_at value_at stamp_at each any from listed only some_of all_of times lowest block_rule empty_block broken relation_of schema_of relation_numbered has own at insert in_order join distinct least_above position_from record_of decode follower encode_record encode_records encode_header encode contents header_rules firsts_rule empty_above field_rule record_rules counters_rule chain_from chain_of chain_step rises chains_rise on_chain rest_zero well_formed described stamped complete leads targets references equal_on conflict_on conflict live reached hop standing beaten kept_after kept grounded settled shown joined_with merged_records merged too_many delta_of edited_by new_label flag_of flag_only odd redoing spent supported values_rule new_record insertion record_at register_at with_register leading update_redoes update_conflict update deletion_redoes deletion schema_length table_length delta_length marks_length bad_index schema_number table_number start_number start_table values_number values_part merge_number merge_table marks_of marks_number marks_count marks_marks marked place_key walk_number walk_given walk_place edit_number edit_table edit_delta insertion_of insertion_number insertion_label insertion_table insertion_delta update_of update_number update_table update_delta deletion_of deletion_number deletion_table deletion_delta entry_at walked table_walked shown_list after_call next history begun pad block_of herd header row same_words same_entries answer_of answers blanks other calls expected took_at_end same_regs same_recs within listed_at_end agree runs crossing crosses chain_schema hops
alike (f, a, b, n, inl h) = h refl
alike (f, a, b, n, inr (e, z)) =
    let one : f ≡ 1 = omega (arith, a, b) in
    let kind : is_reference (kind_at herd 1 1) ≡ true = subst (λ k. is_reference (kind_at herd 1 k) ≡ true) one e in
    clash kind refl

pub keys_rule_out : KeysOnce herd two_alike → ⊥
unfolding of_group of_cow of_groups ones ones_in is_label label_within deleted redone up_to join_reg join_regs join_cell join_opt word block relations field_count kind_at mask_at base capacity_of replica_at clock_at used_at first_at next_at relation_at label_at flag_at value_at stamp_at each any from listed only some_of all_of times lowest block_rule empty_block broken relation_of schema_of relation_numbered has own at insert in_order join distinct least_above position_from record_of decode follower encode_record encode_records encode_header encode contents header_rules firsts_rule empty_above field_rule record_rules counters_rule chain_from chain_of chain_step rises chains_rise on_chain rest_zero well_formed described stamped complete leads targets references equal_on conflict_on conflict live reached hop standing beaten kept_after kept grounded settled shown joined_with merged_records merged too_many delta_of edited_by new_label flag_of flag_only odd redoing spent supported values_rule new_record insertion record_at register_at with_register leading update_redoes update_conflict update deletion_redoes deletion schema_length table_length delta_length marks_length bad_index schema_number table_number start_number start_table values_number values_part merge_number merge_table marks_of marks_number marks_count marks_marks marked place_key walk_number walk_given walk_place edit_number edit_table edit_delta insertion_of insertion_number insertion_label insertion_table insertion_delta update_of update_number update_table update_delta deletion_of deletion_number deletion_table deletion_delta entry_at walked table_walked shown_list after_call next history begun pad block_of herd header row same_words same_entries answer_of answers blanks other calls expected took_at_end same_regs same_recs within listed_at_end agree runs crossing crosses chain_schema hops
keys_rule_out k = alike (k 0 1 (omega arith) (omega arith) (omega arith) refl 1 (inl refl) (omega arith))

-- "each nonempty reference finds a shown record" rules out a cow in a group that is not in the list.
unfound : ((q : ℕ) × (q < 1) × ((entry dangling q).relation ≡ 1) × ((entry dangling q).label ≡ 257)) → ⊥
unfound (q, l, e, z) =
    let none : q ≡ 0 = omega (arith, l) in
    let two : ◌≡◌ {A = ℕ} 2 1 = subst (λ k. (entry dangling k).relation ≡ 1) none e in
    absurd (omega (arith, two))

pub references_rule_out : ReferencesFound herd dangling → ⊥
unfolding of_group of_cow of_groups ones ones_in is_label label_within deleted redone up_to join_reg join_regs join_cell join_opt word block relations field_count kind_at mask_at base capacity_of replica_at clock_at used_at first_at next_at relation_at label_at flag_at value_at stamp_at each any from listed only some_of all_of times lowest block_rule empty_block broken relation_of schema_of relation_numbered has own at insert in_order join distinct least_above position_from record_of decode follower encode_record encode_records encode_header encode contents header_rules firsts_rule empty_above field_rule record_rules counters_rule chain_from chain_of chain_step rises chains_rise on_chain rest_zero well_formed described stamped complete leads targets references equal_on conflict_on conflict live reached hop standing beaten kept_after kept grounded settled shown joined_with merged_records merged too_many delta_of edited_by new_label flag_of flag_only odd redoing spent supported values_rule new_record insertion record_at register_at with_register leading update_redoes update_conflict update deletion_redoes deletion schema_length table_length delta_length marks_length bad_index schema_number table_number start_number start_table values_number values_part merge_number merge_table marks_of marks_number marks_count marks_marks marked place_key walk_number walk_given walk_place edit_number edit_table edit_delta insertion_of insertion_number insertion_label insertion_table insertion_delta update_of update_number update_table update_delta deletion_of deletion_number deletion_table deletion_delta entry_at walked table_walked shown_list after_call next history begun pad block_of herd header row same_words same_entries answer_of answers blanks other calls expected took_at_end same_regs same_recs within listed_at_end agree runs crossing crosses chain_schema hops
references_rule_out r = unfound (r 0 (omega arith) 2 (omega arith) (omega arith) refl (omega arith))
