-- What checks 2 and 3 tell of a schema and a table.
-- Assumes nothing.
use Rattle.std.specs.Prelude.{ℕ, ◌≡◌, true, false, List}
use Rattle.model.specs.Schemas.{broken}
use Rattle.model.specs.WellFormed.{well_formed}
use Rattle.model.specs.Calls.{table_length}

-- A schema that is not broken, and a well-formed table of a table's length.
pub record Checked (s t : List ℕ) : Type 0 where
  pub schema : broken s ≡ false
  pub long : table_length t ≡ true
  pub formed : well_formed s t ≡ true
