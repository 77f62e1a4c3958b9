-- The value of a well-formed table of a table's length is valid.
-- Assumes nothing.
use Prim.Native.Nat.{ℕ, zero, suc, ◌+◌, ◌/◌, ◌%◌, ◌≤◌, ◌<◌}
use mathlib.Core.Path.{◌≡◌, refl, sym, ◌∙◌, ap}
use mathlib.Core.Bool.{true, false, ◌&&◌, ◌||◌, not}
use mathlib.Core.List.{List}
use native.Mathlib.Omega.{arith}
use lib.Dec.{eqb, leb}
use lib.ListN.{length}
use borrow.Author.Tests.{eq-eqb, ne_eqb, le-leb}
use Rattle.crdt.proofs.Tests.{and_both, not_false}
use Rattle.crdt.specs.Labels.{is_replica, is_label, counter_of, largest_counter}
use Rattle.crdt.specs.Flags.{largest_flag}
use Rattle.crdt.specs.Cells.{Reg, reg}
use Rattle.model.specs.Layout.{fields, most_records, relations, field_count, kind_at, capacity_of, clock_at, used_at, relation_at, label_at, flag_at, value_at, stamp_at}
use Rattle.model.specs.Lists.{from, listed, all_of, some_of}
use Rattle.model.specs.Schemas.{Relation, is_reference, broken, relation_of, schema_of, relation_numbered, no_relation}
use Rattle.model.specs.Records.{Rec, label_span, relation, label, has, distinct}
use Rattle.model.specs.Tables.{Table, record_of, decode}
use Rattle.model.specs.WellFormed.{field_rule, chain_of, well_formed}
use Rattle.model.specs.Shown.{described}
use Rattle.model.specs.Valid.{valid_regs, regs_under, valid_record, valid}
use Rattle.model.specs.Calls.{table_length}
use Rattle.wellformed.proofs.Ranges.{listed_length, listed_at}
use Rattle.wellformed.proofs.ListRanges.{all_from}
use Rattle.wellformed.proofs.Facts.{label_span_lem, Sized, table_sized, SoundSchema, schema_sound, Formed, formed, Ruled, ruled, counter_label, counter_field}
use Rattle.wellformed.proofs.Chains.{lies, rises_one, on_own}

-- relation and label come back from a key
module _ (t : List ℕ) (i : ℕ) (h : label_at t i < label_span) where
  pub record_relation : relation (record_of t i) ≡ relation_at t i
  unfolding record_of
  record_relation = omega arith

  pub record_label : label (record_of t i) ≡ label_at t i
  unfolding record_of
  record_label = omega arith

-- the kinds of a relation of the schema
pub kinds_of_lem : (s : List ℕ) (x : Rec) → 1 ≤ relation x → relation x ≤ relations s → (described (schema_of s) x).kinds ≡ listed (field_count s (relation x)) (kind_at s (relation x))
unfolding described relation_numbered schema_of relation_of
kinds_of_lem s x a b = ap (λ (q : Relation). q.kinds) (listed_at (relations s) (relation_of s) (relation x) no_relation a b)

-- the tests of a record's registers, from tests of its fields
module _ (kind : ℕ → ℕ) (v st : ℕ → ℕ) where
  abbrev registers : ℕ → Reg
  registers j = reg (v j) (st j)

  regs_valid : (i F n : ℕ) → F ≤ n → ((j : ℕ) → i ≤ j → j < i + F → field_rule (kind j) (v j) (st j) ≡ true)
      → ((j : ℕ) → i + F ≤ j → j < i + n → (eqb (v j) 0 && eqb (st j) 0) ≡ true) → valid_regs (from i F kind) (from i n registers) ≡ true
  unfolding valid_regs from
  regs_valid i zero n l f z = all_from (λ (g : Reg). eqb g.value 0 && eqb g.stamp 0) i n registers (λ j a b. z j (omega arith) (omega arith))
  regs_valid i (suc F) zero l f z = absurd (omega arith)
  regs_valid i (suc F) (suc n) l f z =
      and_both (field_rule (kind i) (v i) (st i)) (valid_regs (from (suc i) F kind) (from (suc i) n registers)) (f i (omega arith) (omega arith))
      (regs_valid (suc i) F n (omega arith) (λ j a b. f j (omega arith) (omega arith)) (λ j a b. z j (omega arith) (omega arith)))

  regs_under_lem : (clock i F n : ℕ) → ((j : ℕ) → i ≤ j → j < i + n → (leb (counter_of (st j)) clock && (not (is_reference (kind j)) || leb (counter_of (v j)) clock)) ≡ true)
      → regs_under clock (from i F kind) (from i n registers) ≡ true
  unfolding regs_under from
  regs_under_lem clock i zero n f = refl
  regs_under_lem clock i (suc F) zero f = refl
  regs_under_lem clock i (suc F) (suc n) f =
      and_both (leb (counter_of (st i)) clock && (not (is_reference (kind i)) || leb (counter_of (v i)) clock)) (regs_under clock (from (suc i) F kind) (from (suc i) n registers))
      (f i (omega arith) (omega arith)) (regs_under_lem clock (suc i) F n (λ j a b. f j (omega arith) (omega arith)))

-- different keys
pub has_from : (i n k : ℕ) (f : ℕ → Rec) → ((j : ℕ) → i ≤ j → j < i + n → k ≡ (f j).key → ⊥) → has (from i n f) k ≡ false
unfolding has some_of from
has_from i zero k f h = refl
has_from i (suc n) k f h = rw (ne_eqb k (f i).key (h i (omega arith) (omega arith))) (has_from (suc i) n k f (λ j a b. h j (omega arith) (omega arith)))

distinct_from : (i n : ℕ) (f : ℕ → Rec) → ((j k : ℕ) → i ≤ j → j < k → k < i + n → (f j).key ≡ (f k).key → ⊥) → distinct (from i n f) ≡ true
unfolding distinct from
distinct_from i zero f h = refl
distinct_from i (suc n) f h =
    and_both (not (has (from (suc i) n f) (f i).key)) (distinct (from (suc i) n f))
    (not_false _ (has_from (suc i) n (f i).key f (λ j a b. h i j (omega arith) (omega arith) (omega arith))))
    (distinct_from (suc i) n f (λ j k a b c. h j k (omega arith) b (omega arith)))

schema_length_lem : (s : List ℕ) → length (schema_of s) ≡ relations s
unfolding schema_of
schema_length_lem s = listed_length (relations s) (relation_of s)

-- a test of tests that all pass
record_passes : (σ : List Relation) (clock : ℕ) (x : Rec) → leb 1 (relation x) ≡ true → leb (relation x) (length σ) ≡ true → is_label (label x) ≡ true
    → leb x.cell.flag largest_flag ≡ true → eqb (length x.cell.regs) fields ≡ true → valid_regs (described σ x).kinds x.cell.regs ≡ true
    → leb (counter_of (label x)) clock ≡ true → regs_under clock (described σ x).kinds x.cell.regs ≡ true → valid_record fields σ clock x ≡ true
unfolding valid_record
record_passes σ clock x a b c d e f g h = rw (a, b, c, d, e, f, g) h

value_passes : (σ : List Relation) (v : Table) → is_replica v.replica ≡ true → leb v.clock largest_counter ≡ true
    → leb (length v.records) v.capacity ≡ true → leb v.capacity most_records ≡ true
    → all_of (valid_record fields σ v.clock) v.records ≡ true → distinct v.records ≡ true → valid fields σ v ≡ true
unfolding valid
value_passes σ v a b c d e f = rw (a, b, c, d, e) f

module _ (s t : List ℕ) (sound : SoundSchema s) (fm : Formed s t) where
  -- record i of 1 to used
  module _ (i : ℕ) (a : 1 ≤ i) (b : i ≤ used_at t) where
    rule : Ruled s t i
    rule = ruled s t i (fm.rules i a b)

    pub label_bounds : (1 ≤ label_at t i) × (label_at t i < label_span)
    label_bounds = label_span_lem (label_at t i) rule.label

    pub relation_is : relation (record_of t i) ≡ relation_at t i
    relation_is = record_relation t i label_bounds.1

    pub label_is : label (record_of t i) ≡ label_at t i
    label_is = record_label t i label_bounds.1

    kinds_is : (described (schema_of s) (record_of t i)).kinds ≡ listed (field_count s (relation_at t i)) (kind_at s (relation_at t i))
    kinds_is =
        let lo : 1 ≤ relation (record_of t i) = rw relation_is rule.relation_least in
        let hi : relation (record_of t i) ≤ relations s = rw relation_is rule.relation_most in
        kinds_of_lem s (record_of t i) lo hi ∙ ap (λ (r : ℕ). listed (field_count s r) (kind_at s r)) relation_is

    abbrev register : ℕ → Reg
    register j = reg (value_at t i j) (stamp_at t i j)

    regs_is : (record_of t i).cell.regs ≡ listed fields register
    unfolding record_of
    regs_is = refl

    flag_is : (record_of t i).cell.flag ≡ flag_at t i
    unfolding record_of
    flag_is = refl

    fields_valid : valid_regs (listed (field_count s (relation_at t i)) (kind_at s (relation_at t i))) (listed fields register) ≡ true
    unfolding listed
    fields_valid =
        regs_valid (kind_at s (relation_at t i)) (value_at t i) (stamp_at t i) 1 (field_count s (relation_at t i)) fields (sound.counts (relation_at t i) rule.relation_least rule.relation_most)
        (λ j l h. rule.field j l (omega (arith, sound.counts (relation_at t i) rule.relation_least rule.relation_most)) (omega arith))
        (λ j l h. rule.unused j (omega arith) (omega arith) (omega arith))

    fields_under : regs_under (clock_at t) (listed (field_count s (relation_at t i)) (kind_at s (relation_at t i))) (listed fields register) ≡ true
    unfolding listed
    fields_under =
        regs_under_lem (kind_at s (relation_at t i)) (value_at t i) (stamp_at t i) (clock_at t) 1 (field_count s (relation_at t i)) fields
        (λ j l h. counter_field s t i (fm.counters i a b) j l (omega arith))

    pub record_valid : valid_record fields (schema_of s) (clock_at t) (record_of t i) ≡ true
    record_valid =
        record_passes (schema_of s) (clock_at t) (record_of t i) (le-leb 1 (relation (record_of t i)) (rw relation_is rule.relation_least))
        (le-leb (relation (record_of t i)) (length (schema_of s)) (rw (relation_is, schema_length_lem s) rule.relation_most))
        (rw label_is rule.label) (rw flag_is rule.flag) (rw regs_is (eq-eqb (length (listed fields register)) fields (listed_length fields register)))
        (rw (kinds_is, regs_is) fields_valid) (rw label_is (counter_label s t i (fm.counters i a b))) (rw (kinds_is, regs_is) fields_under)

  keys_differ : (j k : ℕ) → 1 ≤ j → j < k → k < 1 + used_at t → (record_of t j).key ≡ (record_of t k).key → ⊥
  keys_differ j k a b c e =
      let j-in : j ≤ used_at t = omega arith in
      let k-in : k ≤ used_at t = omega arith in
      let k-one : 1 ≤ k = omega arith in
      let o = on_own t fm.up j (fm.on j a j-in) in
      let q = on_own t fm.up k (fm.on k k-one k-in) in
      let r : relation_at t j ≡ relation_at t k = sym (relation_is j a j-in) ∙ ap (λ (x : ℕ). x / label_span) e ∙ relation_is k k-one k-in in
      let l : label_at t j ≡ label_at t k = sym (label_is j a j-in) ∙ ap (λ (x : ℕ). x % label_span) e ∙ label_is k k-one k-in in
      let m : lies k (chain_of t (relation_at t j)) ≡ true = rw r q.2 in
      omega (arith, rises_one t (relation_at t j) 0 (chain_of t (relation_at t j)) j k (fm.up (relation_at t j) o.0 o.1) o.2 m l)

  pub records_distinct : distinct (listed (used_at t) (record_of t)) ≡ true
  unfolding listed
  records_distinct = distinct_from 1 (used_at t) (record_of t) keys_differ

  records_valid : all_of (valid_record fields (schema_of s) (clock_at t)) (listed (used_at t) (record_of t)) ≡ true
  unfolding listed
  records_valid = all_from (valid_record fields (schema_of s) (clock_at t)) 1 (used_at t) (record_of t) (λ i a b. record_valid i a (omega arith))

  value_valid : Sized t → valid fields (schema_of s) (decode t) ≡ true
  unfolding decode
  value_valid z =
      value_passes (schema_of s) (decode t) fm.replica fm.clock
      (le-leb (length (listed (used_at t) (record_of t))) (capacity_of t) (rw (listed_length (used_at t) (record_of t)) fm.used))
      (le-leb (capacity_of t) most_records z.capacity) records_valid records_distinct

pub formed_valid : (s t : List ℕ) → broken s ≡ false → table_length t ≡ true → well_formed s t ≡ true → valid fields (schema_of s) (decode t) ≡ true
formed_valid s t b l w = value_valid s t (schema_sound s b) (formed s t w) (table_sized t l)
