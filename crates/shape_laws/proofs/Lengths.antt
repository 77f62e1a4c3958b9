-- The lengths of the four slices, and of turned words.
-- Assumes nothing.
use Prim.Native.Nat.{ℕ, ◌+◌, ◌*◌, ◌-◌, ◌%◌, ◌≤◌}
use mathlib.Core.Path.{◌≡◌, refl}
use mathlib.Core.Bool.{Bool, true}
use mathlib.Core.List.{List, [], ◌∷◌}
use native.Mathlib.Omega.{arith}
use native.Mathlib.Nat.{mul_comm, mul-mod_right}
use lib.Dec.{leb, eqb}
use lib.ListN.{length}
use borrow.Author.Tests.{le-leb, eqb-true, eq-eqb}
use Rattle.model.specs.Layout.{fields, most_relations, most_records, header_words, head_words, relations, capacity_of}
use Rattle.model.specs.Calls.{schema_length, table_length}
use Rattle.model.specs.Shapes.{old_fields, capacity_in, schema_length_in, table_length_in, rows_from, turned_block, turned_schema, turned_table, shape_lengths}
use Rattle.wellformed.proofs.Ranges.{parts, whole}
use Rattle.shape_laws.proofs.Rows.{rows_length}
use Rattle.shape_laws.proofs.Turned.{turned_length, capacity_of_lem, block_length}
use Rattle.shape_laws.proofs.Spelled.{sized_in}

pub record Lengths (os ot s t : List ℕ) : Type 0 where
  pub old_schema_lem : schema_length_in old_fields os ≡ true
  pub old_table_lem : table_length_in old_fields ot ≡ true
  pub schema : schema_length s ≡ true
  pub table : table_length t ≡ true
  pub equal : capacity_in old_fields ot ≡ capacity_of t

module _ (os ot s t : List ℕ) where
  abbrev tests : List Bool
  tests = table_length_in old_fields ot ∷ schema_length s ∷ table_length t ∷ eqb (capacity_in old_fields ot) (capacity_of t) ∷ []

  pub lengths : shape_lengths os ot s t ≡ true → Lengths os ot s t
  unfolding shape_lengths
  lengths h =
      let g = parts (schema_length_in old_fields os) tests h in
      record { old_schema_lem = g.0; old_table_lem = g.1.0; schema = g.1.1.0; table = g.1.1.1.0; equal = eqb-true _ _ g.1.1.1.1.0 }

  pub all_lengths : Lengths os ot s t → shape_lengths os ot s t ≡ true
  unfolding shape_lengths
  all_lengths l =
      whole (schema_length_in old_fields os) tests (l.old_schema_lem, (l.old_table_lem, (l.schema, (l.table, (eq-eqb (capacity_in old_fields ot) (capacity_of t) l.equal, tt)))))

-- the words of a schema, and the records of a table, of twelve fields
pub schema_size : (w : ℕ) (s : List ℕ) → schema_length_in w s ≡ true → length s ≡ 1 + (w + 4) * most_relations
unfolding schema_length_in
schema_size w s h = omega (arith, eqb-true (length s) (1 + most_relations * (w + 4)) h, mul_comm (w + 4) most_relations)

pub capacity_same : (t : List ℕ) → capacity_in fields t ≡ capacity_of t
unfolding capacity_in capacity_of
capacity_same t = refl

-- turned words have the lengths of their form
pub schema_turned : (v w : ℕ) (s : List ℕ) → schema_length_in w (turned_schema v w s) ≡ true
unfolding schema_length_in turned_schema
schema_turned v w s =
    let rows = rows_length (w + 4) (turned_block v w s) (block_length v w s) 1 most_relations in
    let e : length (relations s ∷ rows_from 1 most_relations (turned_block v w s)) ≡ 1 + most_relations * (w + 4) = omega (arith, rows, mul_comm (w + 4) most_relations) in
    eq-eqb _ _ e

pub table_turned : (v w : ℕ) (t : List ℕ) → table_length_in v t ≡ true → table_length_in w (turned_table v w t) ≡ true
unfolding table_length_in
table_turned v w t h =
    let n = length (turned_table v w t) in
    let z = sized_in v t (unfold table_length_in in h) in
    let e = turned_length v w t z.least in
    let d : length (turned_table v w t) - header_words ≡ (head_words + 2 * w) * capacity_in v t = omega (arith, e) in
    let a : header_words ≤ length (turned_table v w t) = omega (arith, e) in
    let b : (length (turned_table v w t) - header_words) % (head_words + 2 * w) ≡ 0 = rw d (mul-mod_right (head_words + 2 * w) (capacity_in v t)) in
    let c : capacity_in w (turned_table v w t) ≤ most_records = rw (capacity_of_lem v w t z.least) z.most in
    whole (leb header_words n) (eqb ((n - header_words) % (head_words + 2 * w)) 0 ∷ leb (capacity_in w (turned_table v w t)) most_records ∷ [])
    (le-leb header_words n a, (eq-eqb _ 0 b, (le-leb _ most_records c, tt)))
