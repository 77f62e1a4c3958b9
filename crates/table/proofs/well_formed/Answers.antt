-- `table::well_formed` meets its contract.
-- Assumes nothing.
use mathlib.Core.Path.{◌∙◌}
use native.Mathlib.Omega.{arith}
use Rattle.shape_laws.proofs.Same.{schema_length_same, table_length_same, broken_same, formed_same}
use Rattle.table.proofs.well_formed.Goals as goal

pub well_formed_in-requires : goal.well_formed_in-requires
well_formed_in-requires c =
    let p = c.requires in
    (omega arith, schema_length_same _ ∙ p.0, table_length_same _ ∙ p.1, broken_same _ ∙ p.2)

pub returns : goal.returns
returns c = c.well_formed_in.ensures ∙ formed_same _ _
