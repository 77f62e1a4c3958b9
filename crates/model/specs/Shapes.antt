-- Between old and new tables (document 02, F-8). First the words and rules of schemas and tables by the number of fields w, in the words and the
-- order of Layout, Schemas and WellFormed, which have w = 12; with w = 8 they are document 01's as it stood before F-7, whose sentences are quoted
-- here with its figures. Then the turning of v fields into w, and the two calls.
-- Assumes nothing.
use Rattle.std.specs.Prelude.{ℕ, zero, suc, ◌+◌, ◌*◌, ◌-◌, ◌/◌, ◌%◌, ◌≡◌, Bool, true, cond, ◌||◌, ◌&&◌, not, List, [], ◌∷◌, ◌++◌, eqb, ltb, leb, length, take, drop}
use Rattle.crdt.specs.Labels.{largest_counter, is_replica, is_label, counter_of}
use Rattle.crdt.specs.Flags.{largest_flag}
use Rattle.model.specs.Layout.{fields, most_relations, most_records, header_words, head_words, zero_word, zero_words, first_words}
use Rattle.model.specs.Layout.{word, relations, field_count, capacity_of, replica_at, clock_at, used_at, first_at}
use Rattle.model.specs.Lists.{each, any, all_of, some_of, listed, check, lowest}
use Rattle.model.specs.Schemas.{kind_rule, mask_rule, is_reference, broken}
use Rattle.model.specs.WellFormed.{firsts_rule, empty_above, field_rule, well_formed}
use Rattle.model.specs.Calls.{done, schema_length, table_length}

module _ (w : ℕ) where
  -- Layout. "Then eight blocks of 12: field count F (1 to 8), eight field kinds, two key masks, a zero."
  abbrev pub block_words_in : ℕ
  block_words_in = w + 4

  unfoldable pub block_in : ℕ → ℕ
  block_in r = 1 + block_words_in * (r - 1)

  unfoldable pub count_in : List ℕ → ℕ → ℕ
  count_in s r = word s (block_in r)

  unfoldable pub kind_in : List ℕ → ℕ → ℕ → ℕ
  kind_in s r j = word s (block_in r + j)

  unfoldable pub mask_in : List ℕ → ℕ → ℕ → ℕ
  mask_in s r m = word s (block_in r + w + m)

  -- "Table: 16 + 20N words"; "Record i begins at word 16 + 20(i − 1): next, relation, label, flag, eight values, eight stamps."
  abbrev pub record_words_in : ℕ
  record_words_in = head_words + 2 * w

  unfoldable pub base_in : ℕ → ℕ
  base_in i = header_words + record_words_in * (i - 1)

  unfoldable pub capacity_in : List ℕ → ℕ
  capacity_in t = (length t - header_words) / record_words_in

  unfoldable pub next_in : List ℕ → ℕ → ℕ
  next_in t i = word t (base_in i)

  unfoldable pub relation_in : List ℕ → ℕ → ℕ
  relation_in t i = word t (base_in i + 1)

  unfoldable pub label_in : List ℕ → ℕ → ℕ
  label_in t i = word t (base_in i + 2)

  unfoldable pub flag_in : List ℕ → ℕ → ℕ
  flag_in t i = word t (base_in i + 3)

  unfoldable pub value_in : List ℕ → ℕ → ℕ → ℕ
  value_in t i j = word t (base_in i + (head_words - 1) + j)

  unfoldable pub stamp_in : List ℕ → ℕ → ℕ → ℕ
  stamp_in t i j = word t (base_in i + (head_words - 1) + w + j)

  -- "Schema: 97 words"
  unfoldable pub schema_length_in : List ℕ → Bool
  schema_length_in s = eqb (length s) (1 + most_relations * block_words_in)

  -- "Table: 16 + 20N words, N from 0 to 4,096"
  unfoldable pub table_length_in : List ℕ → Bool
  table_length_in t = leb header_words (length t) && eqb ((length t - header_words) % record_words_in) 0 && leb (capacity_in t) most_records

  -- Schemas. "field count F (1 to 8)", "kinds above F are 0", key masks "all within F", and the block ends with "a zero"
  unfoldable pub block_rule_in : List ℕ → ℕ → Bool
  block_rule_in s r =
      leb 1 (count_in s r) && leb (count_in s r) w
      && each w (λ j. cond (leb j (count_in s r)) (kind_rule (relations s) (kind_in s r j)) (eqb (kind_in s r j) 0))
      && mask_rule (count_in s r) (mask_in s r 1) && mask_rule (count_in s r) (mask_in s r 2)
      && eqb (mask_in s r 3) 0

  -- "Blocks above R .. are 0"
  unfoldable pub empty_block_in : List ℕ → ℕ → Bool
  empty_block_in s r = each block_words_in (λ j. eqb (word s (block_in r + (j - 1))) 0)

  -- "Word 0 is the number of relations R, 1 to 8."
  unfoldable pub broken_in : List ℕ → Bool
  broken_in s =
      not (leb 1 (relations s) && leb (relations s) most_relations
      && each most_relations (λ r. cond (leb r (relations s)) (block_rule_in s r) (empty_block_in s r)))

  -- Well-formed. "header fields lie in their ranges", "used is at most N". First indices, and chains above R, are words of the header, which is the
  -- same in both forms (firsts_rule, empty_above).
  unfoldable pub header_rules_in : List ℕ → Bool
  header_rules_in t =
      is_replica (replica_at t) && leb (clock_at t) largest_counter && leb (used_at t) (capacity_in t) && eqb (word t zero_word) 0
      && each zero_words (λ j. eqb (word t (first_words + most_relations + (j - 1))) 0)

  -- "record labels are labels", "flags within range", the rules of the F fields, "unused fields are zero"
  unfoldable pub record_rules_in : List ℕ → List ℕ → ℕ → Bool
  record_rules_in s t i =
      leb 1 (relation_in t i) && leb (relation_in t i) (relations s) && is_label (label_in t i) && leb (flag_in t i) largest_flag
      && each w (λ j.
      cond (leb j (count_in s (relation_in t i))) (field_rule (kind_in s (relation_in t i) j) (value_in t i j) (stamp_in t i j)) (eqb (value_in t i j) 0 && eqb (stamp_in t i j) 0))

  -- "the clock is at least every counter in labels, stamps and references"
  unfoldable pub counters_rule_in : List ℕ → List ℕ → ℕ → Bool
  counters_rule_in s t i =
      leb (counter_of (label_in t i)) (clock_at t)
      && each w (λ j.
      leb (counter_of (stamp_in t i j)) (clock_at t) && (not (is_reference (kind_in s (relation_in t i) j)) || leb (counter_of (value_in t i j)) (clock_at t)))

  -- "Records are chained by the next index, and zero ends the chain."
  unfoldable pub chain_from_in : ℕ → List ℕ → ℕ → List ℕ
  chain_from_in zero t i = []
  chain_from_in (suc n) t zero = []
  chain_from_in (suc n) t (suc i) = suc i ∷ chain_from_in n t (next_in t (suc i))

  unfoldable pub chain_in : List ℕ → ℕ → List ℕ
  chain_in t r = chain_from_in (used_at t + 1) t (first_at t r)

  -- "each chain holds records of its relation with strictly rising labels"
  unfoldable pub chain_step_in : List ℕ → ℕ → ℕ → ℕ → Bool
  chain_step_in t r low i = leb i (used_at t) && eqb (relation_in t i) r && ltb low (label_in t i) && leb (next_in t i) (used_at t)

  unfoldable pub rises_in : List ℕ → ℕ → ℕ → List ℕ → Bool
  rises_in t r low [] = true
  rises_in t r low (i ∷ is) = chain_step_in t r low i && rises_in t r (label_in t i) is

  unfoldable pub chains_rise_in : List ℕ → Bool
  chains_rise_in t = each most_relations (λ r. rises_in t r 0 (chain_in t r))

  -- "each of 1 to used lies on a chain"
  unfoldable pub on_chain_in : List ℕ → ℕ → Bool
  on_chain_in t i = any most_relations (λ r. some_of (λ j. eqb i j) (chain_in t r))

  -- "words above the used records are zero"
  unfoldable pub rest_zero_in : List ℕ → Bool
  rest_zero_in t = all_of (λ x. eqb x 0) (drop (base_in (used_at t + 1)) t)

  -- "Well-formed": every rule of the paragraph
  unfoldable pub well_formed_in : List ℕ → List ℕ → Bool
  well_formed_in s t =
      header_rules_in t && firsts_rule t && empty_above s t && each (used_at t) (λ i. record_rules_in s t i && counters_rule_in s t i)
      && chains_rise_in t && each (used_at t) (on_chain_in t) && rest_zero_in t

-- f i, f (i + 1) and on, n in all, one behind the other
unfoldable pub rows_from : ℕ → ℕ → (ℕ → List ℕ) → List ℕ
rows_from i zero f = []
rows_from i (suc n) f = f i ++ rows_from (suc i) n f

-- Turning v fields into w.
module _ (v w : ℕ) where
  -- fields 1 to w; "what the old form lacks is 0"
  unfoldable pub fields_turned : (ℕ → ℕ) → List ℕ
  fields_turned f = listed w (λ j. cond (leb j v) (f j) 0)

  -- "R, each relation's field count, kinds and masks .. stay the same", and the zero that ends a block
  unfoldable pub turned_block : List ℕ → ℕ → List ℕ
  turned_block s r = count_in v s r ∷ (fields_turned (kind_in v s r) ++ (mask_in v s r 1 ∷ mask_in v s r 2 ∷ mask_in v s r 3 ∷ []))

  unfoldable pub turned_schema : List ℕ → List ℕ
  turned_schema s = relations s ∷ rows_from 1 most_relations (turned_block s)

  -- "at each position the record's next, relation, label, flag, values and stamps stay the same"
  unfoldable pub turned_record : List ℕ → ℕ → List ℕ
  turned_record t i =
      next_in v t i ∷ relation_in v t i ∷ label_in v t i ∷ flag_in v t i ∷ (fields_turned (value_in v t i) ++ fields_turned (stamp_in v t i))

  -- "the header .. stay the same", "with N equal on both sides"
  unfoldable pub turned_table : List ℕ → List ℕ
  turned_table t = take header_words t ++ rows_from 1 (capacity_in v t) (turned_record t)

-- "tables of 20 words a record": eight fields
abbrev pub old_fields : ℕ
old_fields = 8

-- "14, after 3, if a schema to be turned back has a relation with more than eight fields"
unfoldable pub too_wide : List ℕ → Bool
too_wide s = any (relations s) (λ r. ltb old_fields (field_count s r))

-- Answer 1: "a lent slice .. has a wrong length", of the four; and N is not "equal on both sides".
unfoldable pub shape_lengths : List ℕ → List ℕ → List ℕ → List ℕ → Bool
shape_lengths os ot s t =
    schema_length_in old_fields os && table_length_in old_fields ot && schema_length s && table_length t && eqb (capacity_in old_fields ot) (capacity_of t)

-- "turn an old schema and table into new ones": os and ot are the old schema and table, s and t those written. 2 and 3 are of the side turned
-- ("3 for the table turned"). "Old contents of the side written are ignored"; in a refusal they stay.
unfoldable pub widen_number : List ℕ → List ℕ → List ℕ → List ℕ → ℕ
widen_number os ot s t =
    lowest (check 1 (not (shape_lengths os ot s t)) ∷ check 2 (broken_in old_fields os) ∷ check 3 (not (well_formed_in old_fields os ot)) ∷ [])

unfoldable pub widen_schema : List ℕ → List ℕ → List ℕ → List ℕ → List ℕ
widen_schema os ot s t = done (widen_number os ot s t) (turned_schema old_fields fields os) s

unfoldable pub widen_table : List ℕ → List ℕ → List ℕ → List ℕ → List ℕ
widen_table os ot s t = done (widen_number os ot s t) (turned_table old_fields fields ot) t

-- "and back"
unfoldable pub narrow_number : List ℕ → List ℕ → List ℕ → List ℕ → ℕ
narrow_number s t os ot =
    lowest (check 1 (not (shape_lengths os ot s t)) ∷ check 2 (broken s) ∷ check 3 (not (well_formed s t)) ∷ check 14 (too_wide s) ∷ [])

unfoldable pub narrow_schema : List ℕ → List ℕ → List ℕ → List ℕ → List ℕ
narrow_schema s t os ot = done (narrow_number s t os ot) (turned_schema fields old_fields s) os

unfoldable pub narrow_table : List ℕ → List ℕ → List ℕ → List ℕ → List ℕ
narrow_table s t os ot = done (narrow_number s t os ot) (turned_table fields old_fields t) ot

-- "Old to new and back gives the same words": what was written is accepted the other way, whatever lies in the buffers os' and ot', and gives back
-- the schema and the table.
abbrev pub RoundTrip : Type 0
RoundTrip =
    (os ot s t : List ℕ) → widen_number os ot s t ≡ 0 → (os' ot' : List ℕ) → length os' ≡ length os → length ot' ≡ length ot
    → let s' = widen_schema os ot s t in let t' = widen_table os ot s t in
    (narrow_number s' t' os' ot' ≡ 0) × (narrow_schema s' t' os' ot' ≡ os) × (narrow_table s' t' os' ot' ≡ ot)

-- New to old and back: of a schema that 14 lets pass, and its table, nothing is lost.
abbrev pub RoundBack : Type 0
RoundBack =
    (s t os ot : List ℕ) → narrow_number s t os ot ≡ 0 → (s' t' : List ℕ) → length s' ≡ length s → length t' ≡ length t
    → let os' = narrow_schema s t os ot in let ot' = narrow_table s t os ot in
    (widen_number os' ot' s' t' ≡ 0) × (widen_schema os' ot' s' t' ≡ s) × (widen_table os' ot' s' t' ≡ t)
