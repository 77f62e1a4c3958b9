-- Key conflicts of lent values with a record of a table, by position.
-- Assumes nothing.
use Rattle.std.specs.Prelude.{ℕ, ◌+◌, ◌<◌, ◌≡◌, Bool, cond, ◌||◌, ◌&&◌, not, List, eqb, length, get_or}
use Rattle.model.specs.Layout.{fields, relation_at, value_at}
use Rattle.model.specs.Schemas.{names}
use Rattle.list_conflicts.specs.Keys.{values_conflict, values_at}

-- Record y of relation r, other than record but, conflicts with the values on one of two keys.
abbrev pub clashes : List ℕ → List ℕ → ℕ → ℕ → ℕ → ℕ → List ℕ → ℕ → Bool
clashes s t r m1 m2 but vs y =
    (not (eqb y but) && eqb (relation_at t y) r) && (values_conflict s r m1 (values_at t y) vs || values_conflict s r m2 (values_at t y) vs)

-- Eight values: those lent, and zeros behind them.
pub record Padded (vs out : List ℕ) : Type 0 where
  pub long : length out ≡ fields
  pub at : (k : ℕ) → k < fields → get_or out k 0 ≡ get_or vs k 0

-- The values of record i with another value in field f.
pub record Renewed (t : List ℕ) (i f new : ℕ) (out : List ℕ) : Type 0 where
  pub long : length out ≡ fields
  pub at : (k : ℕ) → k < fields → get_or out k 0 ≡ cond (eqb (k + 1) f) new (value_at t i (k + 1))

-- A key mask, 0 where it does not name field f.
abbrev pub narrowed : ℕ → ℕ → ℕ
narrowed m f = cond (names m f) m 0
