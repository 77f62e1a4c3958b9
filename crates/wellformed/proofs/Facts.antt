-- What the test of a well-formed table says, rule by rule.
-- Assumes nothing.
use Prim.Native.Nat.{ℕ, ◌+◌, ◌*◌, ◌-◌, ◌%◌, ◌≤◌, ◌<◌}
use mathlib.Core.Path.{◌≡◌}
use mathlib.Core.Bool.{Bool, true, false, cond, ◌&&◌, ◌||◌, not}
use mathlib.Core.List.{List, [], ◌∷◌}
use native.Mathlib.Omega.{arith}
use lib.Dec.{eqb, leb}
use lib.ListN.{length}
use borrow.Author.Tests.{leb-true, eqb-true, not-false, le-leb, lt-leb}
use Rattle.crdt.proofs.Tests.{and_left, and_right}
use Rattle.crdt.specs.Labels.{largest_counter, is_replica, is_counter, is_label, counter_of, replica_of}
use Rattle.crdt.specs.Flags.{largest_flag}
use Rattle.model.specs.Layout.{fields, most_relations, most_records, header_words, record_words, first_words, zero_word, zero_words, word, relations, field_count, kind_at, mask_at, capacity_of, replica_at, clock_at, used_at, relation_at, label_at, flag_at, value_at, stamp_at}
use Rattle.model.specs.Lists.{each}
use Rattle.model.specs.Schemas.{is_reference, block_rule, empty_block, broken, kind_rule, mask_rule}
use Rattle.model.specs.Records.{label_span}
use Rattle.model.specs.WellFormed.{header_rules, firsts_rule, empty_above, field_rule, record_rules, counters_rule, chain_of, rises, chains_rise, on_chain, rest_zero, well_formed}
use Rattle.model.specs.Calls.{table_length}
use Rattle.wellformed.proofs.Ranges.{Trues, parts, each_at}

-- a label is at least 1 and below the span of labels
pub label_span_lem : (l : ℕ) → is_label l ≡ true → (1 ≤ l) × (l < label_span)
unfolding is_label
label_span_lem l h =
    let c = and_left (is_counter (counter_of l)) (leb 1 (replica_of l)) h in
    let lo = leb-true 1 (counter_of l) (and_left (leb 1 (counter_of l)) (leb (counter_of l) largest_counter) c) in
    let hi = leb-true (counter_of l) largest_counter (and_right (leb 1 (counter_of l)) (leb (counter_of l) largest_counter) c) in
    (omega arith, omega arith)

-- the length of a table
pub record Sized (t : List ℕ) : Type 0 where
  pub capacity : capacity_of t ≤ most_records
  pub size : length t ≡ header_words + record_words * capacity_of t

pub table_sized : (t : List ℕ) → table_length t ≡ true → Sized t
unfolding table_length capacity_of
table_sized t h =
    let g = parts (leb header_words (length t)) (eqb ((length t - header_words) % record_words) 0 ∷ leb (capacity_of t) most_records ∷ []) h in
    let a = leb-true header_words (length t) g.0 in
    let b = eqb-true ((length t - header_words) % record_words) 0 g.1.0 in
    record { capacity = leb-true (capacity_of t) most_records g.1.1.0; size = omega arith }

-- a schema that is not broken
block_count : (s : List ℕ) (r : ℕ) → block_rule s r ≡ true → field_count s r ≤ fields
unfolding block_rule
block_count s r h =
    let kinds = each fields (λ j. cond (leb j (field_count s r)) (kind_rule (relations s) (kind_at s r j)) (eqb (kind_at s r j) 0)) in
    let g = parts (leb 1 (field_count s r)) (leb (field_count s r) fields ∷ kinds ∷ mask_rule (field_count s r) (mask_at s r 1) ∷ mask_rule (field_count s r) (mask_at s r 2) ∷ eqb (mask_at s r 3) 0 ∷ []) h in
    leb-true (field_count s r) fields g.1.0

pub record SoundSchema (s : List ℕ) : Type 0 where
  pub most : relations s ≤ most_relations
  pub counts : (r : ℕ) → 1 ≤ r → r ≤ relations s → field_count s r ≤ fields

pub schema_sound : (s : List ℕ) → broken s ≡ false → SoundSchema s
unfolding broken
schema_sound s h = record { most = leb-true (relations s) most_relations g.1.0; counts = count }
  where
    block : ℕ → Bool
    block r = cond (leb r (relations s)) (block_rule s r) (empty_block s r)

    g : Trues (leb 1 (relations s) ∷ leb (relations s) most_relations ∷ each most_relations block ∷ [])
    g = parts (leb 1 (relations s)) (leb (relations s) most_relations ∷ each most_relations block ∷ []) (not-false _ h)

    count : (r : ℕ) → 1 ≤ r → r ≤ relations s → field_count s r ≤ fields
    count r a b =
        let n = leb-true (relations s) most_relations g.1.0 in
        let k = each_at most_relations block r g.1.1.0 a (omega arith) in
        block_count s r (rw (le-leb r (relations s) b) at k)

-- the rules of a well-formed table
pub record Formed (s t : List ℕ) : Type 0 where
  pub replica : is_replica (replica_at t) ≡ true
  pub clock : leb (clock_at t) largest_counter ≡ true
  pub used : used_at t ≤ capacity_of t
  pub third : word t zero_word ≡ 0
  pub zeros : (j : ℕ) → 1 ≤ j → j ≤ zero_words → word t (first_words + most_relations + (j - 1)) ≡ 0
  pub rules : (i : ℕ) → 1 ≤ i → i ≤ used_at t → record_rules s t i ≡ true
  pub counters : (i : ℕ) → 1 ≤ i → i ≤ used_at t → counters_rule s t i ≡ true
  pub up : (r : ℕ) → 1 ≤ r → r ≤ most_relations → rises t r 0 (chain_of t r) ≡ true
  pub on : (i : ℕ) → 1 ≤ i → i ≤ used_at t → on_chain t i ≡ true
  pub rest : rest_zero t ≡ true

pub formed : (s t : List ℕ) → well_formed s t ≡ true → Formed s t
unfolding well_formed header_rules chains_rise
formed s t h =
    record {
      replica = k.0;
      clock = k.1.0;
      used = leb-true (used_at t) (capacity_of t) k.1.1.0;
      third = eqb-true (word t zero_word) 0 k.1.1.1.0;
      zeros = λ j a b. eqb-true _ 0 (each_at zero_words zero_word_lem j k.1.1.1.1.0 a b);
      rules = λ i a b. and_left (record_rules s t i) (counters_rule s t i) (each_at (used_at t) record_rules_lem i g.1.1.1.0 a b);
      counters = λ i a b. and_right (record_rules s t i) (counters_rule s t i) (each_at (used_at t) record_rules_lem i g.1.1.1.0 a b);
      up = λ r a b. each_at most_relations rise r g.1.1.1.1.0 a b;
      on = λ i a b. each_at (used_at t) (on_chain t) i g.1.1.1.1.1.0 a b;
      rest = g.1.1.1.1.1.1.0;
    }
  where
    record_rules_lem : ℕ → Bool
    record_rules_lem i = record_rules s t i && counters_rule s t i

    rise : ℕ → Bool
    rise r = rises t r 0 (chain_of t r)

    zero_word_lem : ℕ → Bool
    zero_word_lem j = eqb (word t (first_words + most_relations + (j - 1))) 0

    g : Trues (header_rules t ∷ firsts_rule t ∷ empty_above s t ∷ each (used_at t) record_rules_lem ∷ chains_rise t ∷ each (used_at t) (on_chain t) ∷ rest_zero t ∷ [])
    g = parts (header_rules t) (firsts_rule t ∷ empty_above s t ∷ each (used_at t) record_rules_lem ∷ chains_rise t ∷ each (used_at t) (on_chain t) ∷ rest_zero t ∷ []) h

    k : Trues (is_replica (replica_at t) ∷ leb (clock_at t) largest_counter ∷ leb (used_at t) (capacity_of t) ∷ eqb (word t zero_word) 0 ∷ each zero_words zero_word_lem ∷ [])
    k = parts (is_replica (replica_at t)) (leb (clock_at t) largest_counter ∷ leb (used_at t) (capacity_of t) ∷ eqb (word t zero_word) 0 ∷ each zero_words zero_word_lem ∷ []) g.0

-- the rules of a record's own words
pub record Ruled (s t : List ℕ) (i : ℕ) : Type 0 where
  pub relation_least : 1 ≤ relation_at t i
  pub relation_most : relation_at t i ≤ relations s
  pub label : is_label (label_at t i) ≡ true
  pub flag : leb (flag_at t i) largest_flag ≡ true
  pub field : (j : ℕ) → 1 ≤ j → j ≤ fields → j ≤ field_count s (relation_at t i) → field_rule (kind_at s (relation_at t i) j) (value_at t i j) (stamp_at t i j) ≡ true
  pub unused : (j : ℕ) → 1 ≤ j → j ≤ fields → field_count s (relation_at t i) < j → (eqb (value_at t i j) 0 && eqb (stamp_at t i j) 0) ≡ true

pub ruled : (s t : List ℕ) (i : ℕ) → record_rules s t i ≡ true → Ruled s t i
unfolding record_rules
ruled s t i h =
    record {
      relation_least = leb-true 1 (relation_at t i) g.0;
      relation_most = leb-true (relation_at t i) (relations s) g.1.0;
      label = g.1.1.0;
      flag = g.1.1.1.0;
      field = λ j a b c. rw (le-leb j (field_count s (relation_at t i)) c) at (each_at fields rule j g.1.1.1.1.0 a b);
      unused = λ j a b c. rw (lt-leb j (field_count s (relation_at t i)) c) at (each_at fields rule j g.1.1.1.1.0 a b);
    }
  where
    rule : ℕ → Bool
    rule j = cond (leb j (field_count s (relation_at t i))) (field_rule (kind_at s (relation_at t i) j) (value_at t i j) (stamp_at t i j)) (eqb (value_at t i j) 0 && eqb (stamp_at t i j) 0)

    g : Trues (leb 1 (relation_at t i) ∷ leb (relation_at t i) (relations s) ∷ is_label (label_at t i) ∷ leb (flag_at t i) largest_flag ∷ each fields rule ∷ [])
    g = parts (leb 1 (relation_at t i)) (leb (relation_at t i) (relations s) ∷ is_label (label_at t i) ∷ leb (flag_at t i) largest_flag ∷ each fields rule ∷ []) h

-- the counters of a record against the clock
pub counter_label : (s t : List ℕ) (i : ℕ) → counters_rule s t i ≡ true → leb (counter_of (label_at t i)) (clock_at t) ≡ true
unfolding counters_rule
counter_label s t i h = and_left (leb (counter_of (label_at t i)) (clock_at t)) _ h

pub counter_field : (s t : List ℕ) (i : ℕ) → counters_rule s t i ≡ true → (j : ℕ) → 1 ≤ j → j ≤ fields
    → (leb (counter_of (stamp_at t i j)) (clock_at t) && (not (is_reference (kind_at s (relation_at t i) j)) || leb (counter_of (value_at t i j)) (clock_at t))) ≡ true
unfolding counters_rule
counter_field s t i h j a b = each_at fields rule j (and_right (leb (counter_of (label_at t i)) (clock_at t)) (each fields rule) h) a b
  where
    rule : ℕ → Bool
    rule j = leb (counter_of (stamp_at t i j)) (clock_at t) && (not (is_reference (kind_at s (relation_at t i) j)) || leb (counter_of (value_at t i j)) (clock_at t))
