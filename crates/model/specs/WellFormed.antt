-- Well-formed tables (document 01, "Table", the paragraph "Well-formed").
-- Assumes nothing.
use Rattle.std.specs.Prelude.{ℕ, zero, suc, ◌+◌, ◌-◌, Bool, true, false, cond, ◌||◌, ◌&&◌, not, List, [], ◌∷◌, eqb, ltb, leb, length, drop}
use Rattle.crdt.specs.Labels.{largest_counter, is_replica, is_label, counter_of}
use Rattle.crdt.specs.Flags.{largest_flag}
use Rattle.model.specs.Layout.{fields, most_relations, first_words, zero_word, zero_words, word, base, relations, field_count, kind_at, capacity_of, replica_at, clock_at, used_at, first_at, next_at, relation_at, label_at, flag_at, value_at, stamp_at}
use Rattle.model.specs.Lists.{each, any, all_of, some_of}
use Rattle.model.specs.Schemas.{is_reference}

-- "header fields lie in their ranges": replica, clock, "used is at most N", word 3 and words 12 to 15 zero
unfoldable pub header_rules : List ℕ → Bool
header_rules t =
    is_replica (replica_at t) && leb (clock_at t) largest_counter && leb (used_at t) (capacity_of t) && eqb (word t zero_word) 0
    && each zero_words (λ j. eqb (word t (first_words + most_relations + (j - 1))) 0)

-- "each of 1 to used lies on a chain, and no index above it": of the first indices
unfoldable pub firsts_rule : List ℕ → Bool
firsts_rule t = each most_relations (λ r. leb (first_at t r) (used_at t))

-- "Chains of relations above R are empty."
unfoldable pub empty_above : List ℕ → List ℕ → Bool
empty_above s t = each most_relations (λ r. leb r (relations s) || eqb (first_at t r) 0)

-- "stamps labels or none", "a value under stamp none is 0", "a reference is 0 or a label"
unfoldable pub field_rule : ℕ → ℕ → ℕ → Bool
field_rule kind value stamp =
    (eqb stamp 0 || is_label stamp) && (not (eqb stamp 0) || eqb value 0) && (not (is_reference kind) || eqb value 0 || is_label value)

-- A record's own words: its relation is one of the schema, "record labels are labels", "flags within range", the rules of its F fields, and
-- "unused fields are zero".
unfoldable pub record_rules : List ℕ → List ℕ → ℕ → Bool
record_rules s t i =
    leb 1 (relation_at t i) && leb (relation_at t i) (relations s) && is_label (label_at t i) && leb (flag_at t i) largest_flag
    && each fields (λ j. cond (leb j (field_count s (relation_at t i))) (field_rule (kind_at s (relation_at t i) j) (value_at t i j) (stamp_at t i j)) (eqb (value_at t i j) 0 && eqb (stamp_at t i j) 0))

-- "the clock is at least every counter in labels, stamps and references"
unfoldable pub counters_rule : List ℕ → List ℕ → ℕ → Bool
counters_rule s t i =
    leb (counter_of (label_at t i)) (clock_at t)
    && each fields (λ j. leb (counter_of (stamp_at t i j)) (clock_at t) && (not (is_reference (kind_at s (relation_at t i) j)) || leb (counter_of (value_at t i j)) (clock_at t)))

-- The indices met from i on: "Records are chained by the next index, and zero ends the chain." At most n of them.
unfoldable pub chain_from : ℕ → List ℕ → ℕ → List ℕ
chain_from zero t i = []
chain_from (suc n) t zero = []
chain_from (suc n) t (suc i) = suc i ∷ chain_from n t (next_at t (suc i))

-- The chain of relation r. A chain that comes back to a record does not rise, so one index more than used is enough to see it.
unfoldable pub chain_of : List ℕ → ℕ → List ℕ
chain_of t r = chain_from (used_at t + 1) t (first_at t r)

-- One step of the chain of relation r, onto record i from a label: the record is of that relation, its label is larger, and its next index
-- is none above used.
unfoldable pub chain_step : List ℕ → ℕ → ℕ → ℕ → Bool
chain_step t r low i = leb i (used_at t) && eqb (relation_at t i) r && ltb low (label_at t i) && leb (next_at t i) (used_at t)

-- "each chain holds records of its relation with strictly rising labels"
unfoldable pub rises : List ℕ → ℕ → ℕ → List ℕ → Bool
rises t r low [] = true
rises t r low (i ∷ is) = chain_step t r low i && rises t r (label_at t i) is

unfoldable pub chains_rise : List ℕ → Bool
chains_rise t = each most_relations (λ r. rises t r 0 (chain_of t r))

-- "each of 1 to used lies on a chain"
unfoldable pub on_chain : List ℕ → ℕ → Bool
on_chain t i = any most_relations (λ r. some_of (λ j. eqb i j) (chain_of t r))

-- "words above the used records are zero"
unfoldable pub rest_zero : List ℕ → Bool
rest_zero t = all_of (λ x. eqb x 0) (drop (base (used_at t + 1)) t)

-- "Well-formed": every rule of the paragraph.
unfoldable pub well_formed : List ℕ → List ℕ → Bool
well_formed s t =
    header_rules t && firsts_rule t && empty_above s t && each (used_at t) (λ i. record_rules s t i && counters_rule s t i)
    && chains_rise t && each (used_at t) (on_chain t) && rest_zero t
