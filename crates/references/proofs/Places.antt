-- The records of a checked table by their positions: keys, bounds, and what a position is.
-- Assumes nothing.
use Prim.Native.Nat.{ℕ, ◌/◌, ◌≤◌, ◌<◌}
use mathlib.Core.Path.{◌≡◌, refl, sym, ◌∙◌, ap}
use mathlib.Core.Logic.{◌⊎◌, inl, inr}
use mathlib.Core.Bool.{true, false, ◌&&◌, ◌||◌, not}
use mathlib.Core.List.{List}
use native.Mathlib.Omega.{arith}
use lib.Dec.{eqb}
use lib.ListN.{length}
use borrow.Author.Tests.{eqb-true}
use Rattle.crdt.proofs.Tests.{Tri, low, same, high, tri, test, clash, or_cases, and_left, and_right, not_true}
use Rattle.crdt.specs.Labels.{is_label}
use Rattle.model.specs.Layout.{fields, most_relations, most_records, relations, field_count, kind_at, used_at, relation_at, label_at, value_at, stamp_at}
use Rattle.model.specs.Schemas.{is_reference, schema_of}
use Rattle.model.specs.Records.{Rec, label_span, place, has, distinct, position}
use Rattle.model.specs.Tables.{record_of, decode}
use Rattle.model.specs.WellFormed.{field_rule}
use Rattle.wellformed.proofs.Ranges.{listed_length, listed_at}
use Rattle.wellformed.proofs.Follow.{no_rec, record_at, has_record, position_none, position_some, position_at}
use Rattle.wellformed.proofs.ValidParts.{ValidTable, valid_table, no_zero}
use Rattle.wellformed.proofs.Facts.{table_sized, SoundSchema, schema_sound, Formed, formed, Ruled, ruled, label_span_lem}
use Rattle.wellformed.proofs.Values.{formed_valid}
use Rattle.judged.specs.Checked.{Checked}
use Rattle.references.specs.Order.{key_at}

-- a field that keeps the rule and is a reference holds a number below the span of labels
rule_value : (k v st : ℕ) → is_reference k ≡ true → field_rule k v st ≡ true → v < label_span
unfolding field_rule
rule_value k v st r h = go (or_cases (not (is_reference k) || eqb v 0) (is_label v) (and_right ((eqb st 0 || is_label st) && (not (eqb st 0) || eqb v 0)) _ h))
  where
    go : ((not (is_reference k) || eqb v 0) ≡ true) ⊎ (is_label v ≡ true) → v < label_span
    go (inr l) = (label_span_lem v l).1
    go (inl q) = less (or_cases (not (is_reference k)) (eqb v 0) q)
      where
        less : (not (is_reference k) ≡ true) ⊎ (eqb v 0 ≡ true) → v < label_span
        less (inl n) = clash r (not_true _ n)
        less (inr e) = omega (arith, eqb-true v 0 e)

-- a position that has key k
pub record Spot (t : List ℕ) (k : ℕ) : Type 0 where
  pub at : ℕ
  pub least : 1 ≤ at
  pub most : at ≤ used_at t
  pub keyed : key_at t at ≡ k

module _ (s t : List ℕ) (c : Checked s t) where
  sound : SoundSchema s
  sound = schema_sound s c.schema

  fm : Formed s t
  fm = formed s t c.formed

  abbrev recs : List Rec
  recs = (decode t).records

  pub used_most : used_at t ≤ most_records
  used_most = omega (arith, fm.used, (table_sized t c.long).capacity)

  pub recs_length : length recs ≡ used_at t
  unfolding decode
  recs_length = listed_length (used_at t) (record_of t)

  value : ValidTable fields (schema_of s) (decode t)
  value = valid_table fields (schema_of s) (decode t) (formed_valid s t c.schema c.long c.formed)

  pub recs_distinct : distinct recs ≡ true
  recs_distinct = value.single

  pub no_key : has recs 0 ≡ false
  no_key = no_zero fields (schema_of s) (decode t) value

  -- record i of 1 to used
  module _ (i : ℕ) (a : 1 ≤ i) (b : i ≤ used_at t) where
    pub at_position : record_at recs i ≡ record_of t i
    unfolding decode
    at_position = listed_at (used_at t) (record_of t) i no_rec a b

    rule : Ruled s t i
    rule = ruled s t i (fm.rules i a b)

    pub label_bounds : (1 ≤ label_at t i) × (label_at t i < label_span)
    label_bounds = label_span_lem (label_at t i) rule.label

    pub relation_least : 1 ≤ relation_at t i
    relation_least = rule.relation_least

    pub relation_known : relation_at t i ≤ relations s
    relation_known = rule.relation_most

    pub relation_most : relation_at t i ≤ most_relations
    relation_most = omega (arith, rule.relation_most, sound.most)

    pub fields_most : field_count s (relation_at t i) ≤ fields
    fields_most = sound.counts (relation_at t i) rule.relation_least rule.relation_most

    pub key_is : key_at t i ≡ place (relation_at t i) (label_at t i)
    unfolding record_of
    key_is = refl

    pub key_relation : key_at t i / label_span ≡ relation_at t i
    key_relation = omega (arith, key_is, label_bounds.1)

    pub has_key : has recs (key_at t i) ≡ true
    has_key = rw at_position at (has_record i recs a (omega (arith, recs_length)))

    pub position_is : position (key_at t i) recs ≡ i
    position_is = rw at_position at (position_at i recs recs_distinct a (omega (arith, recs_length)))

    -- what a reference holds
    pub reference_below : (j : ℕ) → 1 ≤ j → j ≤ fields → is_reference (kind_at s (relation_at t i) j) ≡ true → value_at t i j < label_span
    reference_below j p q r = go (tri (field_count s (relation_at t i)) j)
      where
        kept : j ≤ field_count s (relation_at t i) → value_at t i j < label_span
        kept l = rule_value _ _ (stamp_at t i j) r (rule.field j p q l)

        go : Tri (field_count s (relation_at t i)) j → value_at t i j < label_span
        go (high l) = kept (omega arith)
        go (same l) = kept (omega arith)
        go (low l) = omega (arith, eqb-true (value_at t i j) 0 (and_left (eqb (value_at t i j) 0) _ (rule.unused j p q l)))

  -- positions of one key are one
  pub same_key : (i j : ℕ) → 1 ≤ i → i ≤ used_at t → 1 ≤ j → j ≤ used_at t → key_at t i ≡ key_at t j → i ≡ j
  same_key i j a b p q e = sym (position_is i a b) ∙ ap (λ (k : ℕ). position k recs) e ∙ position_is j p q

  -- a key that a record has is that of a position
  pub spot : (k : ℕ) → has recs k ≡ true → Spot t k
  spot k h =
      let p = position_some k recs h in
      let i = position k recs in
      let b : i ≤ used_at t = omega (arith, p.within, recs_length) in
      record { at = i; least = p.from_one; most = b; keyed = ap (λ (x : Rec). x.key) (sym (at_position i p.from_one b)) ∙ p.keyed }

  -- a key that no position has is at position 0
  pub position_nowhere : (k : ℕ) → ((i : ℕ) → 1 ≤ i → i ≤ used_at t → key_at t i ≡ k → ⊥) → position k recs ≡ 0
  position_nowhere k f = go (test (has recs k))
    where
      go : (has recs k ≡ true) ⊎ (has recs k ≡ false) → position k recs ≡ 0
      go (inl h) = let p = spot k h in absurd (f p.at p.least p.most p.keyed)
      go (inr h) = position_none k recs h
