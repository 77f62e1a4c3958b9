-- The answers of turning and the words that it writes, in the forms in which the functions ask for them; and the two calls as turnings.
-- Assumes nothing.
use Prim.Native.Nat.{ℕ, zero, suc, ◌+◌, ◌*◌, ◌≤◌}
use mathlib.Core.Path.{◌≡◌, refl, sym, ◌∙◌, ap}
use mathlib.Core.Bool.{Bool, true, false, cond, ◌&&◌, ◌||◌, not}
use mathlib.Core.List.{List, [], ◌∷◌}
use mathlib.Core.Logic.{◌⊎◌, inl, inr}
use native.Mathlib.Omega.{arith}
use native.Mathlib.Numerals.{add-one}
use lib.Dec.{eqb, ltb, leb}
use lib.ListN.{length}
use borrow.Author.Tests.{ne_eqb, eq-eqb, eqb-true, eqb-false, not-false, le-leb, le-ltb, leb-true}
use Rattle.answers.specs.Told.{Told, told}
use Rattle.crdt.proofs.Tests.{test, and_right}
use Rattle.model.specs.Layout.{fields, most_relations, most_records, header_words, head_words, relations, field_count, block, capacity_of}
use Rattle.model.specs.Lists.{each, any, all_of, check, lowest}
use Rattle.model.specs.Schemas.{kind_rule, mask_rule}
use Rattle.model.specs.Calls.{schema_length, table_length}
use Rattle.model.specs.Shapes.{old_fields, block_in, count_in, kind_in, mask_in, capacity_in, schema_length_in, table_length_in, block_rule_in, empty_block_in, broken_in, well_formed_in}
use Rattle.model.specs.Shapes.{turned_schema, turned_table, too_wide, shape_lengths, widen_number, widen_schema, widen_table, narrow_number, narrow_schema, narrow_table}
use Rattle.laws.proofs.Checks.{passed}
use Rattle.wellformed.proofs.Ranges.{parts}
use Rattle.layout.proofs.Each.{each_at}
use Rattle.table_rules.proofs.Rules.{sound_in}
use Rattle.shape_laws.proofs.Same.{schema_length_same, table_length_same, broken_same, formed_same}
use Rattle.shape_laws.proofs.Spelled.{sized_in}
use Rattle.shape_laws.proofs.Lengths.{schema_size, capacity_same}
use Rattle.shapes.specs.Turn.{turn_lengths, wider, turn_number}

-- 14's test, one relation more
module _ (v w : ℕ) (s : List ℕ) where
  pub wider_none : false ≡ any 0 (λ q. ltb w (count_in v s q))
  unfolding any
  wider_none = refl

  pub wider_more : (wide : Bool) (r x : ℕ) → x ≡ count_in v s (r + 1) → wide ≡ any r (λ q. ltb w (count_in v s q))
      → (wide || ltb w x) ≡ any (r + 1) (λ q. ltb w (count_in v s q))
  unfolding any
  wider_more wide r x e g = rw (g, e, add-one r)

-- no test of 1 to n
any_none : (n : ℕ) (p : ℕ → Bool) → ((k : ℕ) → 1 ≤ k → k ≤ n → p k ≡ false) → any n p ≡ false
unfolding any
any_none zero p h = refl
any_none (suc n) p h = rw (any_none n p (λ k a b. h k a (omega arith)), h (suc n) (omega arith) (omega arith))

-- a schema that isn't broken has no relation of more fields than its form
sound_fits : (v w : ℕ) (s : List ℕ) → v ≤ w → broken_in v s ≡ false → wider v w s ≡ false
unfolding wider broken_in block_rule_in
sound_fits v w s h e =
    let b = leb 1 (relations s) && leb (relations s) most_relations in
    let p : ℕ → Bool = λ r. cond (leb r (relations s)) (block_rule_in v s r) (empty_block_in v s r) in
    let all : each most_relations p ≡ true = and_right b (each most_relations p) (not-false (b && each most_relations p) e) in
    let m = sound_in v s e in
    any_none (relations s) _ (λ r a c. fits r c (each_at most_relations p r all a (omega arith)))
  where
    fits : (r : ℕ) → r ≤ relations s → cond (leb r (relations s)) (block_rule_in v s r) (empty_block_in v s r) ≡ true → ltb w (count_in v s r) ≡ false
    fits r c g =
        let k : block_rule_in v s r ≡ true = rw (le-leb r (relations s) c) at g in
        let q = parts (leb 1 (count_in v s r)) (leb (count_in v s r) v ∷ each v (λ j. cond (leb j (count_in v s r)) (kind_rule (relations s) (kind_in v s r j)) (eqb (kind_in v s r j) 0))
        ∷ mask_rule (count_in v s r) (mask_in v s r 1) ∷ mask_rule (count_in v s r) (mask_in v s r 2) ∷ eqb (mask_in v s r 3) 0 ∷ []) k in
        let n = leb-true (count_in v s r) v q.1.0 in
        le-ltb w (count_in v s r) (omega arith)

module _ (v w : ℕ) (s t ws wt : List ℕ) where
  -- the lengths
  pub record Fit : Type 0 where
    pub schema : schema_length_in v s ≡ true
    pub table : table_length_in v t ≡ true
    pub schema_written : schema_length_in w ws ≡ true
    pub table_written : table_length_in w wt ≡ true
    pub equal : capacity_in v t ≡ capacity_in w wt

  pub lengths_are : (a b c d : Bool) (m n : ℕ) → a ≡ schema_length_in v s → b ≡ table_length_in v t → c ≡ schema_length_in w ws → d ≡ table_length_in w wt
      → m ≡ capacity_in v t → n ≡ capacity_in w wt → ((a && b) && c && d && eqb m n) ≡ turn_lengths v w s t ws wt
  unfolding turn_lengths
  lengths_are a b c d m n e f g h i j = rw (e, f, g, h, i, j)

  pub lengths_fit : turn_lengths v w s t ws wt ≡ true → Fit
  unfolding turn_lengths
  lengths_fit h =
      let g = parts (schema_length_in v s) (table_length_in v t ∷ schema_length_in w ws ∷ table_length_in w wt ∷ eqb (capacity_in v t) (capacity_in w wt) ∷ []) h in
      record { schema = g.0; table = g.1.0; schema_written = g.1.1.0; table_written = g.1.1.1.0; equal = eqb-true _ _ g.1.1.1.1.0 }

  -- what writing the schema and the table asks
  pub schema_room : v ≤ fields → w ≤ fields → Fit
      → (v ≤ fields) × (w ≤ fields) × (length s ≡ 1 + (v + 4) * most_relations) × (length ws ≡ 1 + (w + 4) * most_relations)
  schema_room a b z = (a, b, schema_size v s z.schema, schema_size w ws z.schema_written)

  pub table_room : v ≤ fields → w ≤ fields → Fit
      → (v ≤ fields) × (w ≤ fields) × (capacity_in v t ≤ most_records) × (length t ≡ header_words + (head_words + 2 * v) * capacity_in v t)
      × (length wt ≡ header_words + (head_words + 2 * w) * capacity_in v t)
  table_room a b z =
      let p = sized_in v t z.table in
      let q = sized_in w wt z.table_written in
      (a, b, p.most, p.size, rw (sym z.equal) at q.size)

  -- the answers
  pub turn_1 : turn_lengths v w s t ws wt ≡ false → 1 ≡ turn_number v w s t ws wt
  unfolding turn_number lowest
  turn_1 l = rw l

  module _ (l : turn_lengths v w s t ws wt ≡ true) where
    pub turn_2 : broken_in v s ≡ true → 2 ≡ turn_number v w s t ws wt
    unfolding turn_number lowest
    turn_2 b = rw (l, b)

    pub turn_3 : broken_in v s ≡ false → well_formed_in v s t ≡ false → 3 ≡ turn_number v w s t ws wt
    unfolding turn_number lowest
    turn_3 b f = rw (l, b, f)

    pub turn_14 : broken_in v s ≡ false → well_formed_in v s t ≡ true → wider v w s ≡ true → 14 ≡ turn_number v w s t ws wt
    unfolding turn_number lowest
    turn_14 b f x = rw (l, b, f, x)

    pub turn_0 : broken_in v s ≡ false → well_formed_in v s t ≡ true → wider v w s ≡ false → 0 ≡ turn_number v w s t ws wt
    unfolding turn_number lowest
    turn_0 b f x = rw (l, b, f, x)

  passed_fits : turn_number v w s t ws wt ≡ 0 → Fit
  unfolding turn_number all_of
  passed_fits e =
      let p = passed (check 1 (not (turn_lengths v w s t ws wt)) ∷ check 2 (broken_in v s) ∷ check 3 (not (well_formed_in v s t)) ∷ check 14 (wider v w s) ∷ []) refl e in
      lengths_fit (not-false _ p.0)

  -- what a call that is done says
  module _ (d : told 0 0 ≡ told (turn_number v w s t ws wt) 0) where
    pub turn_passed : turn_number v w s t ws wt ≡ 0
    turn_passed = sym (ap (λ (x : Told). x.number) d)

    pub turn_fits : Fit
    turn_fits = passed_fits turn_passed

-- what a done call gives, by its number
pub done_words : (n : ℕ) (a b c : List ℕ) → n ≡ 0 → c ≡ a → c ≡ cond (eqb n 0) a b
done_words n a b c e f = rw (e, f)

-- old to new: the last check never applies
last_passes : (a b c d : Bool) → (b ≡ false → d ≡ false)
    → lowest (check 1 a ∷ check 2 b ∷ check 3 c ∷ check 14 d ∷ []) ≡ lowest (check 1 a ∷ check 2 b ∷ check 3 c ∷ [])
unfolding lowest
last_passes true b c d h = refl
last_passes false true c d h = refl
last_passes false false true d h = refl
last_passes false false false d h = rw (h refl)

module _ (os ot s t : List ℕ) where
  widen_lengths : turn_lengths old_fields fields os ot s t ≡ shape_lengths os ot s t
  unfolding turn_lengths shape_lengths
  widen_lengths = rw (schema_length_same s, table_length_same t, capacity_same t)

  pub widen_is : turn_number old_fields fields os ot s t ≡ widen_number os ot s t
  unfolding turn_number widen_number
  widen_is =
      last_passes (not (turn_lengths old_fields fields os ot s t)) (broken_in old_fields os) (not (well_formed_in old_fields os ot)) (wider old_fields fields os)
      (sound_fits old_fields fields os (omega arith))
      ∙ ap (λ (b : Bool). lowest (check 1 (not b) ∷ check 2 (broken_in old_fields os) ∷ check 3 (not (well_formed_in old_fields os ot)) ∷ [])) widen_lengths

  pub widen_schema_is : cond (eqb (turn_number old_fields fields os ot s t) 0) (turned_schema old_fields fields os) s ≡ widen_schema os ot s t
  unfolding widen_schema
  widen_schema_is = rw widen_is

  pub widen_table_is : cond (eqb (turn_number old_fields fields os ot s t) 0) (turned_table old_fields fields ot) t ≡ widen_table os ot s t
  unfolding widen_table
  widen_table_is = rw widen_is

  -- and back
  same_sides : (a b : ℕ) → eqb a b ≡ eqb b a
  same_sides a b = go (test (eqb a b))
    where
      go : (eqb a b ≡ true) ⊎ (eqb a b ≡ false) → eqb a b ≡ eqb b a
      go (inl p) = p ∙ sym (eq-eqb b a (sym (eqb-true a b p)))
      go (inr p) = p ∙ sym (ne_eqb b a (λ z. eqb-false a b p (sym z)))

  swapped : (a b c d e : Bool) → (a && b && c && d && e) ≡ (c && d && a && b && e)
  swapped true true true true e = refl
  swapped true true true false e = refl
  swapped true true false d e = refl
  swapped true false true true e = refl
  swapped true false true false e = refl
  swapped true false false d e = refl
  swapped false b true true e = refl
  swapped false b true false e = refl
  swapped false b false d e = refl

  narrow_lengths : turn_lengths fields old_fields s t os ot ≡ shape_lengths os ot s t
  unfolding turn_lengths shape_lengths
  narrow_lengths =
      rw (schema_length_same s, table_length_same t, capacity_same t)
      (swapped (schema_length s) (table_length t) (schema_length_in old_fields os) (table_length_in old_fields ot) (eqb (capacity_of t) (capacity_in old_fields ot))
      ∙ rw (same_sides (capacity_of t) (capacity_in old_fields ot)))

  narrow_wider : wider fields old_fields s ≡ too_wide s
  unfolding wider too_wide count_in field_count block_in block
  narrow_wider = refl

  pub narrow_is : turn_number fields old_fields s t os ot ≡ narrow_number s t os ot
  unfolding turn_number narrow_number
  narrow_is = rw (narrow_lengths, broken_same s, formed_same s t, narrow_wider)

  pub narrow_schema_is : cond (eqb (turn_number fields old_fields s t os ot) 0) (turned_schema fields old_fields s) os ≡ narrow_schema s t os ot
  unfolding narrow_schema
  narrow_schema_is = rw narrow_is

  pub narrow_table_is : cond (eqb (turn_number fields old_fields s t os ot) 0) (turned_table fields old_fields t) ot ≡ narrow_table s t os ot
  unfolding narrow_table
  narrow_table_is = rw narrow_is
