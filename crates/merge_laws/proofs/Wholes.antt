-- Well-formed tables are whole, and so are the words of a valid value.
-- Assumes nothing.
use Prim.Native.Nat.{ℕ, ◌≤◌}
use mathlib.Core.Path.{◌≡◌}
use mathlib.Core.Bool.{Bool, true, false, ◌&&◌}
use mathlib.Core.List.{List}
use native.Mathlib.Omega.{arith}
use lib.ListN.{length}
use Rattle.crdt.proofs.Tests.{and_left, and_right}
use Rattle.model.specs.Layout.{fields, most_relations}
use Rattle.model.specs.Schemas.{Relation, broken, schema_of}
use Rattle.model.specs.Records.{label}
use Rattle.model.specs.Tables.{Table, decode, encode}
use Rattle.model.specs.WellFormed.{well_formed}
use Rattle.model.specs.Valid.{valid}
use Rattle.model.specs.Merge.{merged_records}
use Rattle.model.specs.Calls.{schema_length, table_length}
use Rattle.wellformed.proofs.ValidParts.{valid_table, record_valid}
use Rattle.wellformed.proofs.EncodedChains.{label_above}
use Rattle.wellformed.proofs.Formed.{relations_within, schema_length_lem}
use Rattle.wellformed.proofs.Values.{formed_valid}
use Rattle.wellformed.proofs.Encoded.{formed_encoded}
use Rattle.merge_laws.specs.Absorb.{nth, records_in, SoundTable, Whole, Mergeable}
use Rattle.merge_laws.proofs.Walk.{whole_encode}

-- A valid value is sound.
pub valid_sound : (σ : List Relation) (v : Table) → length σ ≤ most_relations → valid fields σ v ≡ true → SoundTable v
valid_sound σ v m h =
    let t = valid_table fields σ v h in
    record {
      room = t.room;
      most = t.small;
      sound =
          λ i a b.
          let x = record_valid fields σ v t i a b in
          record { least = x.above; most = omega (arith, x.known); labelled = label_above (label (nth v.records i)) x.labelled; flagged = x.flagged; wide = x.sized };
      single = t.single;
    }

pub valid_whole : (σ : List Relation) (v : Table) → length σ ≤ most_relations → valid fields σ v ≡ true → Whole (encode v)
valid_whole σ v m h = whole_encode v (valid_sound σ v m h)

-- A well-formed table is whole.
pub formed_whole : (s t : List ℕ) → broken s ≡ false → table_length t ≡ true → well_formed s t ≡ true → Whole t
formed_whole s t b l w =
    record {
      words = formed_encoded s t b l w;
      value = valid_sound (schema_of s) (decode t) (omega (arith, schema_length_lem s, relations_within s b)) (formed_valid s t b l w);
    }

-- Two tables lent with a schema, all of the right lengths.
pub lengths_are : (s a b : List ℕ) (x y z : Bool) → x ≡ schema_length s → y ≡ table_length a → z ≡ table_length b → (x && y && z) ≡ (schema_length s && table_length a && table_length b)
lengths_are s a b x y z e d f = rw (e, d, f)

module _ (s a b : List ℕ) (l : (schema_length s && table_length a && table_length b) ≡ true) where
  schema_long : schema_length s ≡ true
  schema_long = and_left (schema_length s) (table_length a) (and_left (schema_length s && table_length a) (table_length b) l)

  pub first_long : table_length a ≡ true
  first_long = and_right (schema_length s) (table_length a) (and_left (schema_length s && table_length a) (table_length b) l)

  pub second_long : table_length b ≡ true
  second_long = and_right (schema_length s && table_length a) (table_length b) l

  module _ (nb : broken s ≡ false) where
    -- as `well_formed` asks
    pub first_asked : (schema_length s ≡ true) × (table_length a ≡ true) × (broken s ≡ false)
    first_asked = (schema_long, first_long, nb)

    pub second_asked : (schema_length s ≡ true) × (table_length b ≡ true) × (broken s ≡ false)
    second_asked = (schema_long, second_long, nb)

    pub both_whole : well_formed s a ≡ true → well_formed s b ≡ true → Whole a × Whole b
    both_whole wa wb = (formed_whole s a nb first_long wa, formed_whole s b nb second_long wb)

-- What merging needs, of two well-formed tables.
pub formed_mergeable : (s t b : List ℕ) → broken s ≡ false → table_length t ≡ true → well_formed s t ≡ true → table_length b ≡ true → well_formed s b ≡ true
    → length (merged_records (records_in t) (records_in b)) ≤ (decode t).capacity → Mergeable t b
formed_mergeable s t b nb lt wt lb wb room = record { own = formed_whole s t nb lt wt; other = formed_whole s b nb lb wb; room = room }
