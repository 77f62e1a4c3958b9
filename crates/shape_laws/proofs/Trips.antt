-- Old to new and back, and new to old and back, of the two calls (document 02, F-8).
-- Assumes nothing.
use Prim.Native.Nat.{ℕ, zero, suc, ◌+◌, ◌*◌, ◌-◌, ◌≤◌, ◌<◌}
use mathlib.Core.Path.{◌≡◌, refl, sym, ◌∙◌, ap}
use mathlib.Core.Logic.{◌⊎◌, inl, inr}
use mathlib.Core.Bool.{Bool, true, false, cond, not}
use mathlib.Core.List.{List, [], ◌∷◌}
use native.Mathlib.Omega.{arith}
use lib.Dec.{leb, ltb, eqb}
use lib.ListN.{length, get_or, drop, get_or-eq_default}
use lib.Seq.{get_or-drop}
use borrow.Author.Tests.{le-leb, lt-leb, leb-true, leb-false, ltb-true, ltb-false, le-ltb, eqb-true, eq-eqb, not-false as unnot}
use Rattle.crdt.proofs.Tests.{test, clash}
use Rattle.model.specs.Layout.{fields, most_relations, header_words, head_words, word, block, base, value_at, stamp_at, relation_at, relations, field_count, used_at}
use Rattle.model.specs.Lists.{each, any, all_of}
use Rattle.model.specs.Schemas.{kind_rule, mask_rule, broken}
use Rattle.model.specs.WellFormed.{rest_zero, well_formed}
use Rattle.model.specs.Calls.{schema_length}
use Rattle.model.specs.Shapes.{old_fields, count_in, kind_in, mask_in, base_in, capacity_in, value_in, stamp_in, schema_length_in, table_length_in}
use Rattle.model.specs.Shapes.{block_in, block_rule_in, empty_block_in, broken_in, well_formed_in, turned_schema, turned_table, too_wide}
use Rattle.model.specs.Shapes.{widen_number, widen_schema, widen_table, narrow_number, narrow_schema, narrow_table, RoundTrip, RoundBack}
use Rattle.laws.proofs.Checks.{passed, none_applies}
use Rattle.wellformed.proofs.Ranges.{Trues, parts, any_at, all_at}
use Rattle.wellformed.proofs.Facts.{Formed, formed, ruled}
use Rattle.layout.proofs.Each.{each_at}
use Rattle.shape_laws.proofs.Same.{schema_length_same, table_length_same, broken_same}
use Rattle.shape_laws.proofs.Turned.{capacity_of_lem, count_turned, relations_turned}
use Rattle.shape_laws.proofs.Spelled.{SizedIn, sized_in}
use Rattle.shape_laws.proofs.Agree.{empty_zeros}
use Rattle.shape_laws.proofs.Old.{old_broken, old_formed}
use Rattle.shape_laws.proofs.Round.{table_back, schema_back}
use Rattle.shape_laws.proofs.Lengths.{Lengths, lengths, all_lengths, schema_size, capacity_same, schema_turned, table_turned}

-- a schema that isn't broken
record Sound (w : ℕ) (s : List ℕ) : Type 0 where
  few : relations s ≤ most_relations
  block : (r : ℕ) → 1 ≤ r → r ≤ relations s → block_rule_in w s r ≡ true
  empty : (r : ℕ) → relations s < r → r ≤ most_relations → empty_block_in w s r ≡ true

sound : (w : ℕ) (s : List ℕ) → broken_in w s ≡ false → Sound w s
unfolding broken_in
sound w s h =
    let rule : ℕ → Bool = λ r. cond (leb r (relations s)) (block_rule_in w s r) (empty_block_in w s r) in
    let g = parts (leb 1 (relations s)) (leb (relations s) most_relations ∷ each most_relations rule ∷ []) (unnot _ h) in
    let f = leb-true (relations s) most_relations g.1.0 in
    record {
      few = f;
      block = λ r c d. rw (le-leb r (relations s) d) at (each_at most_relations rule r g.1.1.0 c (omega (arith, d, f)));
      empty = λ r c d. rw (lt-leb r (relations s) c) at (each_at most_relations rule r g.1.1.0 (omega arith) d);
    }

module _ (w : ℕ) (s : List ℕ) (r : ℕ) (h : block_rule_in w s r ≡ true) where
  abbrev kinds : ℕ → Bool
  kinds j = cond (leb j (count_in w s r)) (kind_rule (relations s) (kind_in w s r j)) (eqb (kind_in w s r j) 0)

  rules : Trues (leb 1 (count_in w s r) ∷ leb (count_in w s r) w ∷ each w kinds ∷ mask_rule (count_in w s r) (mask_in w s r 1) ∷ mask_rule (count_in w s r) (mask_in w s r 2) ∷ eqb (mask_in w s r 3) 0 ∷ [])
  unfolding block_rule_in
  rules =
      let masks = mask_rule (count_in w s r) (mask_in w s r 1) ∷ mask_rule (count_in w s r) (mask_in w s r 2) ∷ eqb (mask_in w s r 3) 0 ∷ [] in
      parts (leb 1 (count_in w s r)) (leb (count_in w s r) w ∷ each w kinds ∷ masks) h

  count_most : count_in w s r ≤ w
  count_most = leb-true (count_in w s r) w rules.1.0

  kinds_above : (j : ℕ) → count_in w s r < j → j ≤ w → kind_in w s r j ≡ 0
  kinds_above j a b = eqb-true (kind_in w s r j) 0 (rw (lt-leb j (count_in w s r) a) at (each_at w kinds j rules.1.1.0 (omega arith) b))

-- no relation has more than eight fields
count_is : (s : List ℕ) (r : ℕ) → field_count s r ≡ count_in fields s r
unfolding field_count block count_in block_in
count_is s r = refl

any_none : (n : ℕ) (p : ℕ → Bool) → ((k : ℕ) → 1 ≤ k → k ≤ n → p k ≡ false) → any n p ≡ false
unfolding any
any_none zero p h = refl
any_none (suc n) p h = rw (any_none n p (λ k a b. h k a (omega arith)), h (suc n) (omega arith) (omega arith))

narrow_counts : (s : List ℕ) → too_wide s ≡ false → (r : ℕ) → 1 ≤ r → r ≤ relations s → count_in fields s r ≤ old_fields
unfolding too_wide
narrow_counts s h r a b = go (test (ltb old_fields (field_count s r)))
  where
    go : (ltb old_fields (field_count s r) ≡ true) ⊎ (ltb old_fields (field_count s r) ≡ false) → count_in fields s r ≤ old_fields
    go (inl e) = clash (any_at (relations s) (λ k. ltb old_fields (field_count s k)) r a b e) h
    go (inr e) = rw (count_is s r) at (ltb-false old_fields (field_count s r) e)

counts_narrow : (s : List ℕ) → ((r : ℕ) → 1 ≤ r → r ≤ relations s → count_in fields s r ≤ old_fields) → too_wide s ≡ false
unfolding too_wide
counts_narrow s h = any_none (relations s) _ (λ r a b. le-ltb old_fields (field_count s r) (rw (count_is s r) (h r a b)))

same_length_schema : (a b : List ℕ) → length a ≡ length b → schema_length_in old_fields b ≡ true → schema_length_in old_fields a ≡ true
unfolding schema_length_in
same_length_schema a b e h = rw e h

same_length_table : (w : ℕ) (a b : List ℕ) → length a ≡ length b → table_length_in w b ≡ true → (table_length_in w a ≡ true) × (capacity_in w a ≡ capacity_in w b)
unfolding table_length_in capacity_in
same_length_table w a b e h = (rw e h, rw e)

negated : (b : Bool) → b ≡ true → not b ≡ false
negated true h = refl
negated false h = sym h

module _ (os ot s t : List ℕ) (n : widen_number os ot s t ≡ 0) where
  record Widened : Type 0 where
    sized : Lengths os ot s t
    sound_old : broken_in old_fields os ≡ false
    formed_old : well_formed_in old_fields os ot ≡ true

  widened : Widened
  unfolding widen_number all_of
  widened =
      let p = passed _ refl n in
      record { sized = lengths os ot s t (unnot _ p.0); sound_old = p.1.0; formed_old = unnot _ p.1.1.0 }

  schema_is : widen_schema os ot s t ≡ turned_schema old_fields fields os
  unfolding widen_schema
  schema_is = rw (eq-eqb _ 0 n)

  table_is : widen_table os ot s t ≡ turned_table old_fields fields ot
  unfolding widen_table
  table_is = rw (eq-eqb _ 0 n)

  module _ (os' ot' : List ℕ) (p : length os' ≡ length os) (q : length ot' ≡ length ot) where
    back_lengths : Lengths os' ot' (turned_schema old_fields fields os) (turned_table old_fields fields ot)
    back_lengths =
        let l = widened.sized in
        let z = sized_in old_fields ot l.old_table_lem in
        let e = same_length_table old_fields ot' ot q l.old_table_lem in
        record {
          old_schema_lem = same_length_schema os' os p l.old_schema_lem;
          old_table_lem = e.0;
          schema = sym (schema_length_same (turned_schema old_fields fields os)) ∙ schema_turned old_fields fields os;
          table = sym (table_length_same (turned_table old_fields fields ot)) ∙ table_turned old_fields fields ot l.old_table_lem;
          equal = e.1 ∙ sym (capacity_of_lem old_fields fields ot z.least) ∙ capacity_same (turned_table old_fields fields ot);
        }

    back_number : narrow_number (turned_schema old_fields fields os) (turned_table old_fields fields ot) os' ot' ≡ 0
    unfolding narrow_number
    back_number =
        let x = sound old_fields os widened.sound_old in
        let few = x.few in
        let wide = counts_narrow (turned_schema old_fields fields os) (λ r a b.
        let b' : r ≤ relations os = rw (relations_turned old_fields fields os) at b in
        rw (count_turned old_fields fields os r a (omega (arith, b', few))) (count_most old_fields os r (x.block r a b'))) in
        let long = all_lengths os' ot' (turned_schema old_fields fields os) (turned_table old_fields fields ot) back_lengths in
        let whole = sym (old_formed os ot few widened.sized.old_table_lem) ∙ widened.formed_old in
        none_applies _ (negated _ long, (sym (old_broken os) ∙ widened.sound_old, (negated _ whole, (wide, tt))))

pub round_trip : RoundTrip
round_trip os ot s t n os' ot' p q = rw (schema_is os ot s t n, table_is os ot s t n) (back_number os ot s t n os' ot' p q, schemas, tables)
  where
    l : Lengths os ot s t
    l = (widened os ot s t n).sized

    size : length os ≡ 1 + (old_fields + 4) * most_relations
    size = schema_size old_fields os l.old_schema_lem

    schemas : narrow_schema (turned_schema old_fields fields os) (turned_table old_fields fields ot) os' ot' ≡ os
    schemas = unfold narrow_schema in rw (back_number os ot s t n os' ot' p q) (schema_back old_fields fields os size (λ r a b j c d. absurd (omega arith)))

    tables : narrow_table (turned_schema old_fields fields os) (turned_table old_fields fields ot) os' ot' ≡ ot
    tables = unfold narrow_table in rw (back_number os ot s t n os' ot' p q) (table_back old_fields fields ot (sized_in old_fields ot l.old_table_lem) (λ i a b j c d. absurd (omega arith)))

-- words above the used records
rest_word : (t : List ℕ) → rest_zero t ≡ true → (k : ℕ) → base (used_at t + 1) ≤ k → word t k ≡ 0
unfolding rest_zero word
rest_word t h k l = go (test (ltb n (length (drop (base (used_at t + 1)) t))))
  where
    n : ℕ
    n = k - base (used_at t + 1)

    there : get_or (drop (base (used_at t + 1)) t) (k - base (used_at t + 1)) 0 ≡ get_or t k 0
    there =
        let e : base (used_at t + 1) + (k - base (used_at t + 1)) ≡ k = omega arith in
        rw e at (get_or-drop (base (used_at t + 1)) t (k - base (used_at t + 1)) 0)

    go : (ltb n (length (drop (base (used_at t + 1)) t)) ≡ true) ⊎ (ltb n (length (drop (base (used_at t + 1)) t)) ≡ false) → get_or t k 0 ≡ 0
    go (inl q) = sym there ∙ eqb-true _ 0 (all_at (λ x. eqb x 0) (drop (base (used_at t + 1)) t) n 0 h (ltb-true _ _ q))
    go (inr q) = sym there ∙ get_or-eq_default (drop (base (used_at t + 1)) t) 0 (ltb-false n _ q)

module _ (s t os ot : List ℕ) (n : narrow_number s t os ot ≡ 0) where
  record Narrowed : Type 0 where
    sized : Lengths os ot s t
    unbroken : broken s ≡ false
    formed_new : well_formed s t ≡ true
    counts : (r : ℕ) → 1 ≤ r → r ≤ relations s → count_in fields s r ≤ old_fields

  narrowed : Narrowed
  unfolding narrow_number all_of
  narrowed =
      let p = passed _ refl n in
      record { sized = lengths os ot s t (unnot _ p.0); unbroken = p.1.0; formed_new = unnot _ p.1.1.0; counts = narrow_counts s p.1.1.1.0 }

  old_schema_is : narrow_schema s t os ot ≡ turned_schema fields old_fields s
  unfolding narrow_schema
  old_schema_is = rw (eq-eqb _ 0 n)

  old_table_is : narrow_table s t os ot ≡ turned_table fields old_fields t
  unfolding narrow_table
  old_table_is = rw (eq-eqb _ 0 n)

  table_length_lem : table_length_in fields t ≡ true
  table_length_lem = table_length_same t ∙ narrowed.sized.table

  size_new : SizedIn fields t
  size_new = sized_in fields t table_length_lem

  sound_new : Sound fields s
  sound_new = sound fields s (broken_same s ∙ narrowed.unbroken)

  -- what the old form lacks is 0
  kinds_lost : (r : ℕ) → 1 ≤ r → r ≤ most_relations → (j : ℕ) → old_fields < j → j ≤ fields → kind_in fields s r j ≡ 0
  kinds_lost r a b j c d = go (test (leb r (relations s)))
    where
      go : (leb r (relations s) ≡ true) ⊎ (leb r (relations s) ≡ false) → kind_in fields s r j ≡ 0
      go (inl e) = let f = leb-true r (relations s) e in kinds_above fields s r (sound_new.block r a f) j (omega (arith, narrowed.counts r a f)) d
      go (inr e) = unfold kind_in in empty_zeros fields s r (sound_new.empty r (leb-false r (relations s) e) b) j (omega arith)

  fields_lost : (i : ℕ) → 1 ≤ i → i ≤ capacity_in fields t → (j : ℕ) → old_fields < j → j ≤ fields → (value_in fields t i j ≡ 0) × (stamp_in fields t i j ≡ 0)
  unfolding value_in stamp_in base_in value_at stamp_at base
  fields_lost i a b j c d = go (test (leb i (used_at t)))
    where
      F : Formed s t
      F = formed s t narrowed.formed_new

      go : (leb i (used_at t) ≡ true) ⊎ (leb i (used_at t) ≡ false)
          → (word t (header_words + (head_words + 2 * fields) * (i - 1) + (head_words - 1) + j) ≡ 0)
          × (word t (header_words + (head_words + 2 * fields) * (i - 1) + (head_words - 1) + fields + j) ≡ 0)
      go (inl e) =
          let R = ruled s t i (F.rules i a (leb-true i (used_at t) e)) in
          let most = narrowed.counts (relation_at t i) R.relation_least R.relation_most in
          let m : field_count s (relation_at t i) < j = omega (arith, count_is s (relation_at t i), most) in
          let u = parts (eqb (value_at t i j) 0) (eqb (stamp_at t i j) 0 ∷ []) (R.unused j (omega arith) d m) in
          (eqb-true (value_at t i j) 0 u.0, eqb-true (stamp_at t i j) 0 u.1.0)
      go (inr e) =
          let l = leb-false i (used_at t) e in
          (rest_word t F.rest _ (omega (arith, l)), rest_word t F.rest _ (omega (arith, l)))

  schema_again : turned_schema old_fields fields (turned_schema fields old_fields s) ≡ s
  schema_again = schema_back fields old_fields s (schema_size fields s (schema_length_same s ∙ narrowed.sized.schema)) kinds_lost

  table_again : turned_table old_fields fields (turned_table fields old_fields t) ≡ t
  table_again = table_back fields old_fields t size_new fields_lost

  module _ (s' t' : List ℕ) (p : length s' ≡ length s) (q : length t' ≡ length t) where
    again_lengths : Lengths (turned_schema fields old_fields s) (turned_table fields old_fields t) s' t'
    again_lengths =
        let e = same_length_table fields t' t q table_length_lem in
        record {
          old_schema_lem = schema_turned fields old_fields s;
          old_table_lem = table_turned fields old_fields t table_length_lem;
          schema = unfold schema_length in rw p narrowed.sized.schema;
          table = sym (table_length_same t') ∙ e.0;
          equal = capacity_of_lem fields old_fields t size_new.least ∙ sym e.1 ∙ capacity_same t';
        }

    again_number : widen_number (turned_schema fields old_fields s) (turned_table fields old_fields t) s' t' ≡ 0
    unfolding widen_number
    again_number =
        let os' = turned_schema fields old_fields s in
        let ot' = turned_table fields old_fields t in
        let few : relations (turned_schema fields old_fields s) ≤ most_relations = rw (relations_turned fields old_fields s) sound_new.few in
        let unbroken = old_broken os' ∙ ap broken schema_again ∙ narrowed.unbroken in
        let back : well_formed (turned_schema old_fields fields os') (turned_table old_fields fields ot') ≡ true = rw (schema_again, table_again) narrowed.formed_new in
        let formed = old_formed os' ot' few (table_turned fields old_fields t table_length_lem) ∙ back in
        none_applies _ (negated _ (all_lengths os' ot' s' t' again_lengths), (unbroken, (negated _ formed, tt)))

pub round_back : RoundBack
round_back s t os ot n s' t' p q = rw (old_schema_is s t os ot n, old_table_is s t os ot n) (again_number s t os ot n s' t' p q, schemas, tables)
  where
    schemas : widen_schema (turned_schema fields old_fields s) (turned_table fields old_fields t) s' t' ≡ s
    schemas = unfold widen_schema in rw (again_number s t os ot n s' t' p q) (schema_again s t os ot n)

    tables : widen_table (turned_schema fields old_fields s) (turned_table fields old_fields t) s' t' ≡ t
    tables = unfold widen_table in rw (again_number s t os ot n s' t' p q) (table_again s t os ot n)
