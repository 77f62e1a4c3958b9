-- The encoding of a valid value is well-formed.
-- Assumes nothing.
use Prim.Native.Nat.{ℕ, zero, suc, ◌+◌, ◌*◌, ◌-◌, ◌≤◌, ◌<◌}
use mathlib.Core.Path.{◌≡◌, refl, ◌∙◌, ap}
use mathlib.Core.Bool.{Bool, true, false, cond, ◌&&◌, ◌||◌, not}
use mathlib.Core.List.{List, [], ◌∷◌}
use mathlib.Core.Logic.{◌⊎◌, inl, inr}
use native.Mathlib.Omega.{arith}
use lib.Dec.{eqb, leb}
use lib.ListN.{length, get_or}
use borrow.Author.Tests.{leb-true, leb-false, eqb-true, le-leb, eq-eqb, not-false}
use Rattle.crdt.proofs.Tests.{test, clash, and_left, and_right, and_both, or_left, or_right}
use Rattle.crdt.specs.Labels.{largest_counter, is_replica, is_label, counter_of}
use Rattle.crdt.specs.Flags.{largest_flag}
use Rattle.crdt.specs.Cells.{Reg, no_reg}
use Rattle.model.specs.Layout.{fields, most_relations, first_words, zero_word, zero_words, record_words, word, relations, field_count, kind_at, capacity_of, replica_at, clock_at, used_at, first_at, label_at, flag_at, value_at, stamp_at}
use Rattle.model.specs.Lists.{each, listed}
use Rattle.model.specs.Schemas.{Relation, no_relation, is_reference, block_rule, empty_block, broken, relation_of, schema_of, relation_numbered}
use Rattle.model.specs.Records.{Rec, relation}
use Rattle.model.specs.Tables.{Table, follower, encode}
use Rattle.model.specs.Shown.{described}
use Rattle.model.specs.WellFormed.{header_rules, firsts_rule, empty_above, field_rule, record_rules, counters_rule, chains_rise, on_chain, rest_zero, well_formed}
use Rattle.model.specs.Valid.{valid, valid_regs, regs_under}
use Rattle.wellformed.proofs.Ranges.{parts, whole, each_all, any_at, listed_length, listed_at, all_at, all_same}
use Rattle.wellformed.proofs.Follow.{record_at, Follows, Last, follows, follower_within}
use Rattle.wellformed.proofs.ValidParts.{ValidRecord, ValidTable, valid_table, record_valid, no_zero}
use Rattle.wellformed.proofs.Words.{Fits, valid_fits, enc_replica, enc_clock, enc_used, enc_zero, enc_zeros, enc_first, enc_relation, enc_label, enc_flag, enc_value, enc_stamp, enc_capacity, enc_rest}
use Rattle.wellformed.proofs.EncodedChains.{chain_rises, chain_meets}

-- the rule of register n + 1: of one that a field has, and of one above the fields
pub regs_used : (ks : List ℕ) (gs : List Reg) (n : ℕ) → valid_regs ks gs ≡ true → n < length ks → field_rule (get_or ks n 0) (get_or gs n no_reg).value (get_or gs n no_reg).stamp ≡ true
unfolding valid_regs
regs_used [] gs n h l = absurd (omega arith)
regs_used (k ∷ ks) [] n h l = clash h refl
regs_used (k ∷ ks) (g ∷ gs) zero h l = and_left (field_rule k g.value g.stamp) _ h
regs_used (k ∷ ks) (g ∷ gs) (suc n) h l = regs_used ks gs n (and_right (field_rule k g.value g.stamp) _ h) (omega arith)

pub regs_unused : (ks : List ℕ) (gs : List Reg) (n : ℕ) → valid_regs ks gs ≡ true → length ks ≤ n → n < length gs → (eqb (get_or gs n no_reg).value 0 && eqb (get_or gs n no_reg).stamp 0) ≡ true
unfolding valid_regs
regs_unused [] gs n h l b = all_at (λ (g : Reg). eqb g.value 0 && eqb g.stamp 0) gs n no_reg h b
regs_unused (k ∷ ks) [] n h l b = clash h refl
regs_unused (k ∷ ks) (g ∷ gs) zero h l b = absurd (omega arith)
regs_unused (k ∷ ks) (g ∷ gs) (suc n) h l b = regs_unused ks gs n (and_right (field_rule k g.value g.stamp) _ h) (omega arith) (omega arith)

-- the counters of one that a field has
abbrev counted : ℕ → ℕ → ℕ → ℕ → Bool
counted clock kind value stamp = leb (counter_of stamp) clock && (not (is_reference kind) || leb (counter_of value) clock)

pub regs_counted : (clock : ℕ) (ks : List ℕ) (gs : List Reg) (n : ℕ) → regs_under clock ks gs ≡ true → n < length ks → n < length gs
    → counted clock (get_or ks n 0) (get_or gs n no_reg).value (get_or gs n no_reg).stamp ≡ true
unfolding regs_under
regs_counted clock [] gs n h l b = absurd (omega arith)
regs_counted clock (k ∷ ks) [] n h l b = absurd (omega arith)
regs_counted clock (k ∷ ks) (g ∷ gs) zero h l b = and_left (counted clock k g.value g.stamp) _ h
regs_counted clock (k ∷ ks) (g ∷ gs) (suc n) h l b = regs_counted clock ks gs n (and_right (counted clock k g.value g.stamp) _ h) (omega arith) (omega arith)

-- the same of field j, where field i of F fields is of kind K i
module _ (F : ℕ) (K : ℕ → ℕ) (gs : List Reg) (ok : valid_regs (listed F K) gs ≡ true) (j : ℕ) (a : 1 ≤ j) (b : j ≤ length gs) where
  abbrev g : Reg
  g = get_or gs (j - 1) no_reg

  field_ruled : cond (leb j F) (field_rule (K j) g.value g.stamp) (eqb g.value 0 && eqb g.stamp 0) ≡ true
  field_ruled = go (test (leb j F))
    where
      go : (leb j F ≡ true) ⊎ (leb j F ≡ false) → cond (leb j F) (field_rule (K j) g.value g.stamp) (eqb g.value 0 && eqb g.stamp 0) ≡ true
      go (inl p) =
          let l = leb-true j F p in
          rw p (rw (listed_at F K j 0 a l) at (regs_used (listed F K) gs (j - 1) ok (omega (arith, listed_length F K))))
      go (inr p) =
          let l = leb-false j F p in
          rw p (regs_unused (listed F K) gs (j - 1) ok (omega (arith, listed_length F K)) (omega arith))

  field_counted : (clock : ℕ) → regs_under clock (listed F K) gs ≡ true → counted clock (K j) g.value g.stamp ≡ true
  field_counted clock u = go (test (leb j F))
    where
      go : (leb j F ≡ true) ⊎ (leb j F ≡ false) → counted clock (K j) g.value g.stamp ≡ true
      go (inl p) =
          let l = leb-true j F p in
          rw (listed_at F K j 0 a l) at (regs_counted clock (listed F K) gs (j - 1) u (omega (arith, listed_length F K)) (omega arith))
      go (inr p) =
          let l = leb-false j F p in
          let z = regs_unused (listed F K) gs (j - 1) ok (omega (arith, listed_length F K)) (omega arith) in
          let c = eqb-true g.value 0 (and_left (eqb g.value 0) (eqb g.stamp 0) z) in
          let d = eqb-true g.stamp 0 (and_right (eqb g.value 0) (eqb g.stamp 0) z) in
          let e : counter_of g.value ≤ clock = omega arith in
          let f : counter_of g.stamp ≤ clock = omega arith in
          and_both _ _ (le-leb _ _ f) (or_right (not (is_reference (K j))) _ (le-leb _ _ e))

-- a schema that is not broken has at most eight relations
pub relations_within : (s : List ℕ) → broken s ≡ false → relations s ≤ most_relations
unfolding broken
relations_within s h =
    let t =
    parts (leb 1 (relations s))
    (leb (relations s) most_relations ∷ each most_relations (λ r. cond (leb r (relations s)) (block_rule s r) (empty_block s r)) ∷ [])
    (not-false _ h) in
    leb-true _ _ t.1.0

-- the schema's value has the relations of its words
pub schema_length_lem : (s : List ℕ) → length (schema_of s) ≡ relations s
unfolding schema_of
schema_length_lem s = listed_length (relations s) (relation_of s)

pub schema_kinds : (s : List ℕ) (x : Rec) → 1 ≤ relation x → relation x ≤ relations s → (described (schema_of s) x).kinds ≡ listed (field_count s (relation x)) (kind_at s (relation x))
unfolding described relation_numbered schema_of
schema_kinds s x a b = ap (λ (r : Relation). r.kinds) (listed_at (relations s) (relation_of s) (relation x) no_relation a b) ∙ unfold relation_of in refl

module _ (s : List ℕ) (v : Table) (nb : broken s ≡ false) (h : valid fields (schema_of s) v ≡ true) where
  -- the parts of the rule, and the words' needs
  t : ValidTable fields (schema_of s) v
  t = valid_table fields (schema_of s) v h

  w : Fits v
  w = valid_fits (schema_of s) v h

  formed_header : header_rules (encode v) ≡ true
  unfolding header_rules
  formed_header =
      whole (is_replica (replica_at (encode v)))
      (leb (clock_at (encode v)) largest_counter ∷ leb (used_at (encode v)) (capacity_of (encode v)) ∷ eqb (word (encode v) zero_word) 0
      ∷ each zero_words (λ j. eqb (word (encode v) (first_words + most_relations + (j - 1))) 0) ∷ []) (
        rw (enc_replica v) t.replica,
        (
          rw (enc_clock v) (le-leb _ _ t.clock),
          (
            rw (enc_used v, enc_capacity v w) (le-leb _ _ t.room),
            (eq-eqb _ _ (enc_zero v), (each_all zero_words _ (λ j a b. eq-eqb _ _ (enc_zeros v j a b)), tt)),
          ),
        ),
      )

  formed_firsts : firsts_rule (encode v) ≡ true
  unfolding firsts_rule
  formed_firsts = each_all most_relations _ (λ r a b. rw (enc_first v r a b, enc_used v) (le-leb _ _ (follower_within v.records r 0)))

  known : (i : ℕ) → 1 ≤ i → i ≤ length v.records → relation (record_at v.records i) ≤ relations s
  known i a b = rw schema_length_lem at (record_valid fields (schema_of s) v t i a b).known

  formed_empty : empty_above s (encode v) ≡ true
  unfolding empty_above
  formed_empty = each_all most_relations _ (λ r a b. go r (enc_first v r a b) (follows v.records r 0 (no_zero fields (schema_of s) v t)))
    where
      go : (r : ℕ) → first_at (encode v) r ≡ follower v.records r 0 → Follows v.records r 0 (follower v.records r 0) ⊎ Last v.records r 0 (follower v.records r 0)
          → (leb r (relations s) || eqb (first_at (encode v) r) 0) ≡ true
      go r e (inl f) = or_left _ _ (le-leb _ _ (rw f.related at (known _ f.here f.within)))
      go r e (inr f) = or_right (leb r (relations s)) _ (eq-eqb _ _ (e ∙ f.none))

  module _ (i : ℕ) (a : 1 ≤ i) (b : i ≤ length v.records) where
    y : ValidRecord fields (schema_of s) v.clock (record_at v.records i)
    y = record_valid fields (schema_of s) v t i a b

    kinds : (described (schema_of s) (record_at v.records i)).kinds ≡ listed (field_count s (relation (record_at v.records i))) (kind_at s (relation (record_at v.records i)))
    kinds = schema_kinds s (record_at v.records i) y.above (known i a b)

    formed_record : record_rules s (encode v) i ≡ true
    unfolding record_rules
    formed_record =
        rw (enc_relation v w.sized i a b)
        (whole (leb 1 (relation (record_at v.records i)))
        (leb (relation (record_at v.records i)) (relations s) ∷ is_label (label_at (encode v) i) ∷ leb (flag_at (encode v) i) largest_flag
        ∷ each fields (λ j. cond (leb j (field_count s (relation (record_at v.records i)))) (field_rule (kind_at s (relation (record_at v.records i)) j) (value_at (encode v) i j) (stamp_at (encode v) i j)) (eqb (value_at (encode v) i j) 0 && eqb (stamp_at (encode v) i j) 0)) ∷ []) (
          le-leb _ _ y.above,
          (
            le-leb _ _ (known i a b),
            (
              rw (enc_label v w.sized i a b) y.labelled,
              (
                rw (enc_flag v w.sized i a b) (le-leb _ _ y.flagged),
                (
                  each_all fields _ (λ j c d. rw (enc_value v w.sized i a b j c d, enc_stamp v w.sized i a b j c d)
                      (field_ruled _ _ _ (rw kinds at y.ruled) j c (omega (arith, y.sized)))),
                  tt,
                ),
              ),
            ),
          ),
        ))

    formed_counters : counters_rule s (encode v) i ≡ true
    unfolding counters_rule
    formed_counters =
        and_both (leb (counter_of (label_at (encode v) i)) (clock_at (encode v))) _ (rw (enc_label v w.sized i a b, enc_clock v) (le-leb _ _ y.counted))
        (each_all fields _ (λ j c d. rw (enc_value v w.sized i a b j c d, enc_stamp v w.sized i a b j c d, enc_clock v, enc_relation v w.sized i a b)
        (field_counted _ _ _ (rw kinds at y.ruled) j c (omega (arith, y.sized)) _ (rw kinds at y.under))))

  formed_rise : chains_rise (encode v) ≡ true
  unfolding chains_rise
  formed_rise = each_all most_relations _ (λ r a b. chain_rises (schema_of s) v t w.sized r a b)

  formed_on : (i : ℕ) → 1 ≤ i → i ≤ length v.records → on_chain (encode v) i ≡ true
  unfolding on_chain
  formed_on i a b =
      let y = record_valid fields (schema_of s) v t i a b in
      let l : relation (record_at v.records i) ≤ most_relations = omega (arith, known i a b, relations_within s nb) in
      any_at most_relations _ (relation (record_at v.records i)) y.above l (chain_meets (schema_of s) v t w.sized i _ a b refl y.above l)

  formed_rest : rest_zero (encode v) ≡ true
  unfolding rest_zero
  formed_rest = rw (enc_rest v w) (all_same (λ x. eqb x 0) 0 (record_words * (v.capacity - length v.records)) refl)

  pub encode_formed : well_formed s (encode v) ≡ true
  unfolding well_formed
  encode_formed =
      whole (header_rules (encode v))
      (firsts_rule (encode v) ∷ empty_above s (encode v) ∷ each (used_at (encode v)) (λ i. record_rules s (encode v) i && counters_rule s (encode v) i)
      ∷ chains_rise (encode v) ∷ each (used_at (encode v)) (on_chain (encode v)) ∷ rest_zero (encode v) ∷ []) (
        formed_header,
        (
          formed_firsts,
          (
            formed_empty,
            (
              rw (enc_used v) (each_all (length v.records) _ (λ i a b. and_both _ _ (formed_record i a b) (formed_counters i a b))),
              (formed_rise, (rw (enc_used v) (each_all (length v.records) _ (λ i a b. formed_on i a b)), (formed_rest, tt))),
            ),
          ),
        ),
      )
