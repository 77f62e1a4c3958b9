-- Known or not, sooner (document 02, F-6): a record looked up by relation and label along the chain of its relation.
-- s is the schema, t the table, r the relation and l the label looked for, which is any number.
-- Assumes nothing.
use Rattle.std.specs.Prelude.{ℕ, zero, suc, ◌+◌, ◌≤◌, ◌<◌, ◌≡◌, ◌≢◌, Bool, true, false, cond, ◌&&◌, ◌||◌, not, List, [], ◌∷◌, eqb, ltb, leb}
use Rattle.model.specs.Layout.{most_relations, relations, used_at, first_at, next_at, relation_at, label_at}
use Rattle.model.specs.Lists.{any, check, lowest}
use Rattle.model.specs.Schemas.{broken}
use Rattle.model.specs.WellFormed.{header_rules, firsts_rule, empty_above, record_rules, counters_rule, chain_step}
use Rattle.model.specs.Calls.{schema_length, table_length, done}

-- A record read on the way, record i after the label low: it doesn't break "a rule of its own words" nor hold "a counter above the clock", and it
-- isn't "of another relation", raises the label and has no "next above used".
unfoldable pub read_rule : List ℕ → List ℕ → ℕ → ℕ → ℕ → Bool
read_rule s t r low i = record_rules s t i && counters_rule s t i && chain_step t r low i

-- Where the walk ends: at a record that breaks a rule, at the label, or past where it would stand.
pub data Seek : Type 0 where
  damaged : Seek
  known : ℕ → Seek
  unknown : Seek

-- "walk the relation's chain and stop at the label, at a larger one, or at the end": at most n records from index i on, after the label low.
unfoldable pub seek_from : ℕ → List ℕ → List ℕ → ℕ → ℕ → ℕ → ℕ → Seek
seek_from zero s t r l low i = unknown
seek_from (suc n) s t r l low zero = unknown
seek_from (suc n) s t r l low (suc i) =
    cond (not (read_rule s t r low (suc i))) damaged
    (cond (eqb (label_at t (suc i)) l) (known (suc i))
    (cond (ltb l (label_at t (suc i))) unknown (seek_from n s t r l (label_at t (suc i)) (next_at t (suc i)))))

-- From the first record of the chain. A chain that comes back to a record does not rise, so one record more than used is enough.
unfoldable pub lookup_seek : List ℕ → List ℕ → ℕ → ℕ → Seek
lookup_seek s t r l = seek_from (used_at t + 1) s t r l 0 (first_at t r)

abbrev pub is_damaged : Seek → Bool
is_damaged damaged = true
is_damaged (known i) = false
is_damaged unknown = false

abbrev pub is_known : Seek → Bool
is_known damaged = false
is_known (known i) = true
is_known unknown = false

abbrev pub known_at : Seek → ℕ
known_at damaged = 0
known_at (known i) = i
known_at unknown = 0

-- "relation as before": 1 to R
abbrev pub is_relation : List ℕ → ℕ → Bool
is_relation s r = leb 1 r && leb r (relations s)

-- "Answers: length, schema and relation as before; 3 exactly if a header word breaks its rule, a first index passes used, a chain above R isn't
-- empty, or a record read on the way, the last included, breaks" a rule. For a relation that is not 1 to R no record is read.
unfoldable pub lookup_number : List ℕ → List ℕ → ℕ → ℕ → ℕ
lookup_number s t r l =
    lowest
    (check 1 (not (schema_length s && table_length t)) ∷ check 2 (broken s)
    ∷ check 3 (not (header_rules t && firsts_rule t && empty_above s t) || (is_relation s r && is_damaged (lookup_seek s t r l)))
    ∷ check 5 (not (is_relation s r)) ∷ [])

-- "its yes or no"; no in a refusal
unfoldable pub lookup_known : List ℕ → List ℕ → ℕ → ℕ → Bool
lookup_known s t r l = done (lookup_number s t r l) (is_known (lookup_seek s t r l)) false

-- The index of the record; 0 where it is not known and in a refusal.
unfoldable pub lookup_index : List ℕ → List ℕ → ℕ → ℕ → ℕ
lookup_index s t r l = done (lookup_number s t r l) (known_at (lookup_seek s t r l)) 0

-- "a search through all records": one of them has the relation and the label
unfoldable pub searched : List ℕ → ℕ → ℕ → Bool
searched t r l = any (used_at t) (λ i. eqb (relation_at t i) r && eqb (label_at t i) l)

-- "a record read on the way": the first of the chain, and the next of a good one that has a smaller label. i is its index, low the label before.
pub data OnWay (s t : List ℕ) (r l : ℕ) : ℕ → ℕ → Type 0 where
  first : 1 ≤ first_at t r → OnWay s t r l 0 (first_at t r)
  next : (low i : ℕ) → OnWay s t r l low i → read_rule s t r low i ≡ true → label_at t i < l → 1 ≤ next_at t i → OnWay s t r l (label_at t i) (next_at t i)

-- "breaks a rule of its own words, is of another relation, doesn't raise the label, holds a counter above the clock or has a next above used"
pub data Breaks (s t : List ℕ) (r low i : ℕ) : Type 0 where
  own_words : record_rules s t i ≡ false → Breaks s t r low i
  other_relation : relation_at t i ≢ r → Breaks s t r low i
  label_not_raised : label_at t i ≤ low → Breaks s t r low i
  counter_above : counters_rule s t i ≡ false → Breaks s t r low i
  next_above : used_at t < next_at t i → Breaks s t r low i

-- The cases of 3, in the page's order.
pub data Damage (s t : List ℕ) (r l : ℕ) : Type 0 where
  header_word : header_rules t ≡ false → Damage s t r l
  first_index : (q : ℕ) → 1 ≤ q → q ≤ most_relations → used_at t < first_at t q → Damage s t r l
  chain_above : (q : ℕ) → relations s < q → q ≤ most_relations → first_at t q ≢ 0 → Damage s t r l
  read_record : 1 ≤ r → r ≤ relations s → (low i : ℕ) → OnWay s t r l low i → Breaks s t r low i → Damage s t r l
