-- `layout::table_length` meets its contract.
-- Assumes nothing.
use Rattle.model.specs.Shapes.{table_length_in, capacity_in}
use Rattle.model.specs.Calls.{table_length}
use Rattle.model.specs.Layout.{capacity_of}
use Rattle.layout.proofs.table_length.Goals as goal

pub returns : goal.returns
unfolding table_length_in table_length capacity_in capacity_of
returns c = c.table_length_in.ensures
