-- `shapes::lengths` meets its contract.
-- Assumes nothing.
use Rattle.shapes.proofs.Turns.{lengths_are}
use Rattle.shapes.proofs.lengths.Goals as goal

pub returns : goal.returns
returns g c =
    lengths_are _ _ _ _ _ _ _ _ _ _ _ _ c.schema_length_in.ensures c.table_length_in.ensures c.schema_length_in-sized.ensures c.table_length_in-to.ensures
    c.capacity_in.ensures c.capacity_in-2.ensures
