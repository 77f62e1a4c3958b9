-- What drafting a delta needs of a table, and the delta while it is drafted.
-- Assumes nothing.
use Rattle.std.specs.Prelude.{ℕ, zero, suc, ◌+◌, ◌-◌, ◌≤◌, ◌<◌, ◌≡◌, true, false, cond, List, eqb, ltb, length, get_or, set}
use Rattle.crdt.specs.Labels.{largest_counter, label_of, is_replica}
use Rattle.crdt.specs.Flags.{largest_flag}
use Rattle.crdt.specs.Cells.{Reg, reg}
use Rattle.model.specs.Layout.{fields, most_relations, most_records, delta_records, delta_words, head_words, base, replica_at, clock_at, used_at, first_at, next_at, relation_at, label_at, flag_at}
use Rattle.model.specs.Lists.{only}
use Rattle.model.specs.Schemas.{broken}
use Rattle.model.specs.Records.{Rec, place, relation, label, distinct}
use Rattle.model.specs.Tables.{Table, record_of, decode, follower}
use Rattle.model.specs.WellFormed.{well_formed}
use Rattle.model.specs.Calls.{table_length}
use Rattle.model.specs.Edits.{new_label, flag_only}
use Rattle.edit_delta.specs.Picked.{picked_keys, draft_of}

-- What every draft needs: schema s, table t, delta buffer d, and marks m, at most as many of them 1 as a record has fields.
pub record Ready (s t d m : List ℕ) : Type 0 where
  pub schema : broken s ≡ false
  pub table : table_length t ≡ true
  pub formed : well_formed s t ≡ true
  pub delta : length d ≡ delta_words
  pub marks : used_at t ≤ length m
  pub few : length (picked_keys (decode t).records m) ≤ fields

-- What the draft of an insertion needs besides: a counter left, a relation, and no more values than fields.
pub record ReadyToInsert (s t d : List ℕ) (r : ℕ) (vs m : List ℕ) : Type 0 where
  pub ready : Ready s t d m
  pub clock : clock_at t < largest_counter
  pub least : 1 ≤ r
  pub most : r ≤ most_relations
  pub count : length vs ≤ fields

-- Of an update: a counter left, a record and a field.
pub record ReadyToUpdate (s t d : List ℕ) (i f : ℕ) (m : List ℕ) : Type 0 where
  pub ready : Ready s t d m
  pub clock : clock_at t < largest_counter
  pub least : 1 ≤ i
  pub most : i ≤ used_at t
  pub first : 1 ≤ f
  pub last : f ≤ fields

-- Of a deletion: a record that is not to be redone.
pub record ReadyToDelete (s t d : List ℕ) (i : ℕ) (m : List ℕ) : Type 0 where
  pub ready : Ready s t d m
  pub least : 1 ≤ i
  pub most : i ≤ used_at t
  pub unmarked : eqb (get_or m (i - 1) 0) 1 ≡ false

-- What the walk of a table's chains needs of the table and of the marks.
pub record Source (t m : List ℕ) : Type 0 where
  pub first : (r : ℕ) → 1 ≤ r → r ≤ most_relations → first_at t r ≡ follower (decode t).records r 0
  pub next : (i : ℕ) → 1 ≤ i → i ≤ used_at t → next_at t i ≡ follower (decode t).records (relation (record_of t i)) (record_of t i).key
  pub single : distinct (decode t).records ≡ true
  pub related : (i : ℕ) → 1 ≤ i → i ≤ used_at t → relation (record_of t i) ≡ relation_at t i
  pub labelled : (i : ℕ) → 1 ≤ i → i ≤ used_at t → label (record_of t i) ≡ label_at t i
  pub least : (i : ℕ) → 1 ≤ i → i ≤ used_at t → 1 ≤ relation_at t i
  pub most : (i : ℕ) → 1 ≤ i → i ≤ used_at t → relation_at t i ≤ most_relations
  pub above : (i : ℕ) → 1 ≤ i → i ≤ used_at t → 1 ≤ label_at t i
  pub below : (i : ℕ) → 1 ≤ i → i ≤ used_at t → label_at t i < label_of (clock_at t + 1) 0
  pub flagged : (i : ℕ) → 1 ≤ i → i ≤ used_at t → flag_at t i ≤ largest_flag
  pub clock : clock_at t ≤ largest_counter
  pub replica : is_replica (replica_at t) ≡ true
  pub small : used_at t ≤ most_records
  pub marks : used_at t ≤ length m
  pub few : length (picked_keys (decode t).records m) ≤ fields

-- The edited record: that of index e (n is 0), or a new one of relation n (e is 0).
pub record Edited (t : List ℕ) (e n : ℕ) : Type 0 where
  pub existing : 1 ≤ e → (e ≤ used_at t) × (n ≡ 0)
  pub new : e ≡ 0 → (1 ≤ n) × (n ≤ most_relations) × (clock_at t < largest_counter)

-- Its key.
unfoldable pub key_of : List ℕ → ℕ → ℕ → ℕ
key_of t e n = cond (eqb e 0) (place n (new_label (decode t))) (record_of t e).key

-- The records to draft: that of key k with flag 0 and no stamps, and the redone ones.
unfoldable pub wanted : List ℕ → ℕ → List ℕ → List Rec
wanted t k m = (draft_of t (clock_at t) (flag_only fields k 0) m).records

-- Those with keys below b: a delta while it is drafted.
unfoldable pub drafted : List ℕ → ℕ → List ℕ → ℕ → Table
drafted t k m b =
    record {
      capacity = delta_records;
      replica = replica_at t;
      clock = clock_at t;
      records = only (λ (x : Rec). ltb x.key b) (wanted t k m);
    }

-- The key above those that relation r has, and below that of a new record.
abbrev pub end_of : List ℕ → ℕ → ℕ
end_of t r = place r (label_of (clock_at t + 1) 0)

-- Register g in field j, from 0, of record p.
unfoldable pub registered : List ℕ → ℕ → ℕ → Reg → List ℕ
registered d p j g = set (set d (base p + head_words + j) g.value) (base p + head_words + fields + j) g.stamp

-- The first n values, stamped, in fields 0 to n - 1 of record p.
unfoldable pub all_registered : ℕ → List ℕ → ℕ → List ℕ → ℕ → List ℕ
all_registered zero d p vs l = d
all_registered (suc n) d p vs l = registered (all_registered n d p vs l) p n (reg (get_or vs n 0) l)

-- One of the records of d has that relation and label.
pub record Findable (d : List ℕ) (r l : ℕ) : Type 0 where
  pub index : ℕ
  pub least : 1 ≤ index
  pub most : index ≤ used_at d
  pub related : relation_at d index ≡ r
  pub labelled : label_at d index ≡ l

-- Record p of d is one.
pub record Found (d : List ℕ) (r l p : ℕ) : Type 0 where
  pub least : 1 ≤ p
  pub most : p ≤ used_at d
  pub related : relation_at d p ≡ r
  pub labelled : label_at d p ≡ l
