-- The key comparison field by field, and the values of a table's records as registers.
-- Assumes nothing.
use Prim.Native.Nat.{ℕ, suc, ◌+◌, ◌-◌, ◌/◌, ◌%◌, ◌≤◌, ◌<◌}
use mathlib.Core.Path.{◌≡◌, refl, sym, ◌∙◌, ap}
use mathlib.Core.Bool.{Bool, true, false, ◌&&◌, ◌||◌, not}
use mathlib.Core.List.{List, [], ◌∷◌, map}
use native.Mathlib.Omega.{arith}
use native.Mathlib.Nat.{sub-zero, add-sub_cancel_left}
use native.Mathlib.Numerals.{add-one}
use lib.Dec.{eqb}
use lib.ListN.{length, get_or, take, drop, length-take, length-drop}
use lib.Seq.{drop-cons}
use borrow.Author.Tests.{eq-eqb, ne_eqb}
use Rattle.crdt.specs.Cells.{Reg, reg}
use Rattle.model.specs.Layout.{fields, head_words, word, base, relations, field_count, kind_at, mask_at, capacity_of, used_at, relation_at, value_at, stamp_at}
use Rattle.model.specs.Lists.{from, listed}
use Rattle.model.specs.Schemas.{Relation, no_relation, is_reference, broken, relation_of, schema_of, relation_numbered}
use Rattle.model.specs.Records.{relation}
use Rattle.model.specs.Tables.{record_of}
use Rattle.model.specs.WellFormed.{well_formed}
use Rattle.model.specs.Shown.{described, equal_on, conflict_on, conflict}
use Rattle.wellformed.proofs.Ranges.{listed_at}
use Rattle.wellformed.proofs.ListRanges.{map_from, span}
use Rattle.wellformed.proofs.Facts.{SoundSchema, schema_sound, Formed, formed, Ruled, ruled}
use Rattle.wellformed.proofs.Values.{relation_is}
use Rattle.layout.proofs.Stride.{capacity_in_lem}
use Rattle.list_conflicts.specs.Keys.{registers, values_conflict, values_at}

-- one field of a key
abbrev pub field_agrees : ℕ → ℕ → ℕ → ℕ → Bool
field_agrees m k a b = eqb (m % 2) 0 || (eqb a b && not (is_reference k && eqb a 0))

-- the comparison from field j + 1 on
module _ (kind : ℕ → ℕ) (F : ℕ) (a b : List ℕ) where
  unfoldable pub onward : ℕ → ℕ → Bool
  onward m j = equal_on m (from (j + 1) (F - j) kind) (registers (drop j a)) (registers (drop j b))

  pub onward_start : (m : ℕ) → equal_on m (listed F kind) (registers a) (registers b) ≡ onward m 0
  unfolding onward listed
  onward_start m = rw (sub-zero F)

  pub onward_step : (m j : ℕ) → j < F → j < length a → j < length b
      → onward m j ≡ (field_agrees m (kind (j + 1)) (get_or a j 0) (get_or b j 0) && onward (m / 2) (j + 1))
  unfolding onward equal_on from
  onward_step m j h p q =
      let e : F - j ≡ suc (F - (j + 1)) = omega arith in
      rw (e, drop-cons a j 0 p, drop-cons b j 0 q, add-one (j + 1), add-one j)

  pub onward_end : (m j : ℕ) → F ≤ j → onward m j ≡ true
  unfolding onward equal_on from
  onward_end m j h = let e : F - j ≡ 0 = omega arith in rw e

  -- a turn: the field does not agree, or it does
  pub turn_stops : (z : Bool) (m j k : ℕ) (x : Bool) → z ≡ onward m j → j < F → j < length a → j < length b → k ≡ kind (j + 1)
      → x ≡ field_agrees m k (get_or a j 0) (get_or b j 0) → x ≡ false → false ≡ z
  turn_stops z m j k x e h p q f g n =
      let y = sym (ap (λ (v : ℕ). field_agrees m v (get_or a j 0) (get_or b j 0)) f) ∙ sym g ∙ n in
      sym (e ∙ onward_step m j h p q ∙ ap (λ (v : Bool). v && onward (m / 2) (j + 1)) y)

  pub turn_goes : (z : Bool) (m j k : ℕ) (x : Bool) → z ≡ onward m j → j < F → j < length a → j < length b → k ≡ kind (j + 1)
      → x ≡ field_agrees m k (get_or a j 0) (get_or b j 0) → x ≡ true → z ≡ onward (m / 2) (j + 1)
  turn_goes z m j k x e h p q f g n =
      let y = sym (ap (λ (v : ℕ). field_agrees m v (get_or a j 0) (get_or b j 0)) f) ∙ sym g ∙ n in
      e ∙ onward_step m j h p q ∙ ap (λ (v : Bool). v && onward (m / 2) (j + 1)) y

pub no_key : (s : List ℕ) (r m : ℕ) (xs ys : List ℕ) → m ≡ 0 → false ≡ values_conflict s r m xs ys
unfolding values_conflict
no_key s r m xs ys e = rw (eq-eqb m 0 e)

pub a_key : (s : List ℕ) (r m : ℕ) (xs ys : List ℕ) (x : Bool) → (m ≡ 0 → ⊥)
    → x ≡ equal_on m (listed (field_count s r) (kind_at s r)) (registers xs) (registers ys) → x ≡ values_conflict s r m xs ys
unfolding values_conflict
a_key s r m xs ys x n e = rw (ne_eqb m 0 n) e

-- a comparison reads the values alone
abbrev pub values_of : List Reg → List ℕ
values_of gs = map (λ (g : Reg). g.value) gs

equal_values : (m : ℕ) (ks : List ℕ) (xs ys : List Reg) → equal_on m ks xs ys ≡ equal_on m ks (registers (values_of xs)) (registers (values_of ys))
unfolding equal_on
equal_values m [] xs ys = refl
equal_values m (k ∷ ks) [] [] = ap (λ (t : Bool). field_agrees m k 0 0 && t) (equal_values (m / 2) ks [] [])
equal_values m (k ∷ ks) [] (y ∷ ys) = ap (λ (t : Bool). field_agrees m k 0 y.value && t) (equal_values (m / 2) ks [] ys)
equal_values m (k ∷ ks) (x ∷ xs) [] = ap (λ (t : Bool). field_agrees m k x.value 0 && t) (equal_values (m / 2) ks xs [])
equal_values m (k ∷ ks) (x ∷ xs) (y ∷ ys) = ap (λ (t : Bool). field_agrees m k x.value y.value && t) (equal_values (m / 2) ks xs ys)

-- the part of a table that begins at word p, as long as a record's values
abbrev pub part_at : List ℕ → ℕ → List ℕ
part_at t p = take (p + fields - p) (drop p t)

pub part_length : (t : List ℕ) (p : ℕ) → p + fields ≤ length t → length (part_at t p) ≡ fields
part_length t p h = simp (length-take, length-drop) (omega arith)

pub part_values : (t : List ℕ) (p i : ℕ) → p ≡ base i + head_words → part_at t p ≡ values_at t i
unfolding values_at
part_values t p i e = rw (add-sub_cancel_left p fields, e)

pub part_lent : (s t : List ℕ) (i r p m : ℕ) (vs : List ℕ) (x : Bool) → r ≡ relation_at t i → p ≡ base i + head_words
    → x ≡ values_conflict s r m (part_at t p) vs → x ≡ values_conflict s (relation_at t i) m (values_at t i) vs
part_lent s t i r p m vs x e f h = rw (part_values t p i f, e) at h

pub few_of : (s t : List ℕ) (i r : ℕ) → r ≡ relation_at t i → field_count s (relation_at t i) ≤ fields → field_count s r ≤ fields
few_of s t i r e h = rw e h

module _ (s t : List ℕ) (b : broken s ≡ false) (w : well_formed s t ≡ true) where
  sound : SoundSchema s
  sound = schema_sound s b

  fm : Formed s t
  fm = formed s t w

  module _ (i : ℕ) (a : 1 ≤ i) (l : i ≤ used_at t) where
    rule : Ruled s t i
    rule = ruled s t i (fm.rules i a l)

    -- the part of the table that is record i's values
    pub values_in : base i + head_words + fields ≤ length t
    values_in = let u = fm.used in let c : i ≤ capacity_of t = omega arith in omega (arith, capacity_in_lem t i a c)

    pub few_fields : field_count s (relation_at t i) ≤ fields
    few_fields = sound.counts (relation_at t i) rule.relation_least rule.relation_most

    values_are : values_of (record_of t i).cell.regs ≡ values_at t i
    unfolding record_of listed values_at value_at word
    values_are =
        map_from (λ (g : Reg). g.value) 1 fields (λ j. reg (value_at t i j) (stamp_at t i j))
        ∙ span t (base i + head_words) fields 1 (value_at t i) values_in (λ k h. ap (λ n. get_or t n 0) (omega arith))

    pub values_length : length (values_at t i) ≡ fields
    unfolding values_at
    values_length = let h = values_in in simp (length-take, length-drop) (omega arith)

    pub relation_own : relation (record_of t i) ≡ relation_at t i
    relation_own = relation_is s t sound fm i a l

    described_is : described (schema_of s) (record_of t i) ≡ relation_of s (relation_at t i)
    unfolding described relation_numbered schema_of
    described_is = rw relation_own (listed_at (relations s) (relation_of s) (relation_at t i) no_relation rule.relation_least rule.relation_most)

    pub first_mask : (described (schema_of s) (record_of t i)).key1 ≡ mask_at s (relation_at t i) 1
    unfolding relation_of
    first_mask = ap (λ (q : Relation). q.key1) described_is

    pub second_mask : (described (schema_of s) (record_of t i)).key2 ≡ mask_at s (relation_at t i) 2
    unfolding relation_of
    second_mask = ap (λ (q : Relation). q.key2) described_is

    kinds_are : (described (schema_of s) (record_of t i)).kinds ≡ listed (field_count s (relation_at t i)) (kind_at s (relation_at t i))
    unfolding relation_of
    kinds_are = ap (λ (q : Relation). q.kinds) described_is

  -- two records
  module _ (i j : ℕ) (a : 1 ≤ i) (l : i ≤ used_at t) (p : 1 ≤ j) (q : j ≤ used_at t) where
    pub records_on : (m : ℕ) → values_conflict s (relation_at t i) m (values_at t i) (values_at t j) ≡ conflict_on (schema_of s) m (record_of t i) (record_of t j)
    unfolding values_conflict conflict_on
    records_on m =
        ap (λ (z : Bool). not (eqb m 0) && z)
        (sym (equal_values m _ (record_of t i).cell.regs (record_of t j).cell.regs ∙ rw (kinds_are i a l, values_are i a l, values_are j p q)))

    pub records_meet : relation_at t i ≡ relation_at t j
        → (conflict_on (schema_of s) (mask_at s (relation_at t i) 1) (record_of t i) (record_of t j) || conflict_on (schema_of s) (mask_at s (relation_at t i) 2) (record_of t i) (record_of t j))
        ≡ conflict (schema_of s) (record_of t i) (record_of t j)
    unfolding conflict
    records_meet e =
        let r : relation (record_of t i) ≡ relation (record_of t j) = relation_own i a l ∙ e ∙ sym (relation_own j p q) in
        rw (eq-eqb (relation (record_of t i)) (relation (record_of t j)) r, first_mask i a l, second_mask i a l)
