-- Marks in step 3. s is the schema, t the table.
-- Assumes nothing.
use Rattle.std.specs.Prelude.{ℕ, ◌+◌, ◌-◌, ◌≤◌, ◌<◌, ◌≡◌, cond, List, get_or}
use Rattle.model.specs.Layout.{used_at, relation_at, label_at}
use Rattle.model.specs.Schemas.{schema_of}
use Rattle.model.specs.Records.{Rec, place, has, in_order}
use Rattle.model.specs.Tables.{record_of, decode}
use Rattle.model.specs.Shown.{standing, kept}
use Rattle.marks.specs.Marks.{is_marked}

-- The standing records, and the mark of record i among them and among those that step 3 keeps.
abbrev pub stood : List ℕ → List ℕ → List Rec
stood s t = standing (schema_of s) (in_order (decode t).records)

abbrev pub stood_mark : List ℕ → List ℕ → ℕ → ℕ
stood_mark s t i = cond (has (stood s t) (record_of t i).key) 1 0

abbrev pub kept_mark : List ℕ → List ℕ → ℕ → ℕ
kept_mark s t i = cond (has (kept (schema_of s) (stood s t)) (record_of t i).key) 1 0

-- Marks a after step 3 of the records with keys below k: these have the mark of those kept, and the others that of the standing ones.
pub record Upto (s t : List ℕ) (k : ℕ) (a : List ℕ) : Type 0 where
  pub done : (i : ℕ) → 1 ≤ i → i ≤ used_at t → place (relation_at t i) (label_at t i) < k → get_or a (i - 1) 0 ≡ kept_mark s t i
  pub rest : (i : ℕ) → 1 ≤ i → i ≤ used_at t → k ≤ place (relation_at t i) (label_at t i) → get_or a (i - 1) 0 ≡ stood_mark s t i

-- The first n marks, each 1 or 0.
pub record Copied (k : List ℕ) (n : ℕ) (a : List ℕ) : Type 0 where
  pub at : (j : ℕ) → j < n → get_or a j 0 ≡ cond (is_marked k (j + 1)) 1 0
