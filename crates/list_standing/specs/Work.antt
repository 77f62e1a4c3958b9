-- The work on the standing records: marks, the records to visit, and what a visit leaves behind.
-- Assumes nothing.
use Rattle.std.specs.Prelude.{ℕ, ◌+◌, ◌-◌, ◌≤◌, ◌<◌, ◌≡◌, true, List, get_or, set}
use Rattle.model.specs.Layout.{kind_at, used_at, relation_at}
use Rattle.model.specs.Schemas.{is_abort, schema_of}
use Rattle.model.specs.Records.{Rec, has, in_order}
use Rattle.model.specs.Tables.{decode, record_of}
use Rattle.model.specs.Shown.{complete, live, standing}
use Rattle.references.specs.Resolved.{resolved_at}

-- The standing records of a table.
abbrev pub standing_of : List ℕ → List ℕ → List Rec
standing_of s t = standing (schema_of s) (in_order (decode t).records)

-- The mark of record i.
abbrev pub mark_of : List ℕ → ℕ → ℕ
mark_of m i = get_or m (i - 1) 0

-- No mark on the first n records.
pub record Clear (n : ℕ) (m : List ℕ) : Type 0 where
  pub at : (k : ℕ) → k < n → get_or m k 0 ≡ 0

-- Record p with a mark and among the first entries of the array of records to visit: as before where it had the mark, and else put behind the
-- first n entries.
pub record Added (m w : List ℕ) (n p : ℕ) (m' w' : List ℕ) (n' : ℕ) : Type 0 where
  pub old : mark_of m p ≡ 1 → (m' ≡ m) × (w' ≡ w) × (n' ≡ n)
  pub new : (mark_of m p ≡ 1 → ⊥) → (m' ≡ set m (p - 1) 1) × (w' ≡ set w n p) × (n' ≡ n + 1)

-- The marked records stand, and are the first n entries of the array, each once.
pub record Queue (s t m w : List ℕ) (n : ℕ) : Type 0 where
  pub least : (k : ℕ) → k < n → 1 ≤ get_or w k 0
  pub within : (k : ℕ) → k < n → get_or w k 0 ≤ used_at t
  pub once : (j k : ℕ) → j < k → k < n → get_or w j 0 ≡ get_or w k 0 → ⊥
  pub marked : (k : ℕ) → k < n → mark_of m (get_or w k 0) ≡ 1
  pub queued : (i : ℕ) → 1 ≤ i → i ≤ used_at t → mark_of m i ≡ 1 → (k : ℕ) × (k < n) × (get_or w k 0 ≡ i)
  pub zero : (i : ℕ) → 1 ≤ i → i ≤ used_at t → (mark_of m i ≡ 1 → ⊥) → mark_of m i ≡ 0
  pub stands : (i : ℕ) → 1 ≤ i → i ≤ used_at t → mark_of m i ≡ 1 → has (standing_of s t) (record_of t i).key ≡ true

-- Marks and entries stay.
pub record More (t m w : List ℕ) (n : ℕ) (m' w' : List ℕ) (n' : ℕ) : Type 0 where
  pub grows : n ≤ n'
  pub keeps : (i : ℕ) → 1 ≤ i → i ≤ used_at t → mark_of m i ≡ 1 → mark_of m' i ≡ 1
  pub same : (k : ℕ) → k < n → get_or w' k 0 ≡ get_or w k 0

-- Step 1 is marked.
pub record Live (s t m : List ℕ) : Type 0 where
  pub at : (i : ℕ) → 1 ≤ i → i ≤ used_at t → live (schema_of s) (record_of t i) ≡ true → mark_of m i ≡ 1

-- No hop leads from field j of record i to a record.
pub record NoTarget (s t : List ℕ) (i j : ℕ) : Type 0 where
  pub none : (p : ℕ) → is_abort (kind_at s (relation_at t i) j) ≡ true → 1 ≤ p → p ≤ used_at t → resolved_at s t i j ≡ p → ⊥

-- The hop from field j of record i leads to position p.
pub record Target (s t : List ℕ) (i j p : ℕ) : Type 0 where
  pub least : 1 ≤ p
  pub within : p ≤ used_at t
  pub abort : is_abort (kind_at s (relation_at t i) j) ≡ true
  pub there : resolved_at s t i j ≡ p

-- Where field j of record i is a reference by abort that leads to a complete record, that record is marked.
pub record Hopped (s t m : List ℕ) (i j : ℕ) : Type 0 where
  pub onto : (p : ℕ) → is_abort (kind_at s (relation_at t i) j) ≡ true → 1 ≤ p → p ≤ used_at t → resolved_at s t i j ≡ p
      → complete (schema_of s) (record_of t p) ≡ true → mark_of m p ≡ 1

-- And so for the first n fields.
pub record Visited (s t m : List ℕ) (i n : ℕ) : Type 0 where
  pub at : (j : ℕ) → 1 ≤ j → j ≤ n → Hopped s t m i j
