-- An entry of the list, as a function of the schema and the record (document 01, "Runs").
-- Assumes nothing.
use Rattle.std.specs.Prelude.{ℕ, List, [], ◌∷◌}
use Rattle.crdt.specs.Cells.{Reg}
use Rattle.model.specs.Schemas.{Relation}
use Rattle.model.specs.Records.{Rec, relation, label}
use Rattle.model.specs.Shown.{described, value, rest}
use Rattle.model.specs.Calls.{Entry}

-- The values of the first registers, one for each kind.
unfoldable pub values_of : List ℕ → List Reg → List ℕ
values_of [] gs = []
values_of (k ∷ ks) gs = value gs ∷ values_of ks (rest gs)

-- "relation, label and F values of each record"
unfoldable pub entry_of : List Relation → Rec → Entry
entry_of σ x = record { relation = relation x; label = label x; values = values_of (described σ x).kinds x.cell.regs }
