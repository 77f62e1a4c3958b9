-- Checks 1 to 3 of an edit (document 01, "What a call hands back").
-- Assumes nothing.
use Rattle.std.specs.Prelude.{ℕ, Bool, ◌&&◌, ◌||◌, not, List, [], ◌∷◌}
use Rattle.model.specs.Lists.{check, lowest}
use Rattle.model.specs.Schemas.{broken}
use Rattle.model.specs.WellFormed.{well_formed}
use Rattle.model.specs.Calls.{schema_length, table_length, delta_length}

-- The lowest of checks 1 to 3 that applies, 0 where none does. An update or a deletion has a record index, which may be bad.
unfoldable pub first_number : Bool → List ℕ → List ℕ → List ℕ → ℕ
first_number index s own delta =
    lowest
    (check 1 (not (schema_length s && table_length own && delta_length delta) || index) ∷ check 2 (broken s)
    ∷ check 3 (not (well_formed s own)) ∷ [])
