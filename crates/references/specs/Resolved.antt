-- The scratch of the shown marks: each reference resolved once to a position, and one mark per record.
-- Assumes nothing.
use Rattle.std.specs.Prelude.{ℕ, ◌+◌, ◌*◌, ◌-◌, ◌≤◌, ◌<◌, ◌≡◌, ◌⊎◌, cond, ◌&&◌, not, List, eqb, get_or}
use Rattle.model.specs.Layout.{fields, kind_at, used_at, relation_at, value_at}
use Rattle.model.specs.Schemas.{abort_kinds, is_reference, leads_to}
use Rattle.model.specs.Records.{Rec, place, has, position}
use Rattle.model.specs.Tables.{decode, record_of}

-- What stands for a nonempty reference that leads to no record of the table; no position is so large.
abbrev pub absent : ℕ
absent = 65535

abbrev pub found : ℕ → ℕ
found p = cond (eqb p 0) absent p

-- The position that field j of record i leads to: 0 where the field is no reference, or is empty, and `absent` where no record has the key.
unfoldable pub resolved_at : List ℕ → List ℕ → ℕ → ℕ → ℕ
resolved_at s t i j =
    cond (is_reference (kind_at s (relation_at t i) j) && not (eqb (value_at t i j) 0))
    (found (position (place (leads_to (kind_at s (relation_at t i) j)) (value_at t i j)) (decode t).records)) 0

-- An array with all references of a table resolved.
pub record Resolves (s t a : List ℕ) : Type 0 where
  pub at : (i j : ℕ) → 1 ≤ i → i ≤ used_at t → 1 ≤ j → j ≤ fields → get_or a (fields * (i - 1) + (j - 1)) 0 ≡ resolved_at s t i j

-- Field j of relation r is a reference to relation d.
pub record Leads (s : List ℕ) (r j d : ℕ) : Type 0 where
  pub reference : abort_kinds ≤ kind_at s r j
  pub leads : leads_to (kind_at s r j) ≡ d

-- The first n entries are 0.
pub record Blank (n : ℕ) (a : List ℕ) : Type 0 where
  pub at : (q : ℕ) → q < n → get_or a q 0 ≡ 0

-- An array on the way there: each entry is 0 or right, and those of the fields before field m % 8 + 1 of relation m / 8 are right.
pub record Filled (s t a : List ℕ) (m : ℕ) : Type 0 where
  pub some : (i j : ℕ) → 1 ≤ i → i ≤ used_at t → 1 ≤ j → j ≤ fields
      → (get_or a (fields * (i - 1) + (j - 1)) 0 ≡ 0) ⊎ (get_or a (fields * (i - 1) + (j - 1)) 0 ≡ resolved_at s t i j)
  pub done : (i j : ℕ) → 1 ≤ i → i ≤ used_at t → 1 ≤ j → j ≤ fields → fields * relation_at t i + (j - 1) < m
      → get_or a (fields * (i - 1) + (j - 1)) 0 ≡ resolved_at s t i j

-- One mark per record: 1 where its key is among those of the list, and 0 elsewhere.
pub record Marked (t : List ℕ) (l : List Rec) (m : List ℕ) : Type 0 where
  pub at : (i : ℕ) → 1 ≤ i → i ≤ used_at t → get_or m (i - 1) 0 ≡ cond (has l (record_of t i).key) 1 0
