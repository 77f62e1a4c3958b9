-- `layout::schema_length` meets its contract.
-- Assumes nothing.
use Rattle.model.specs.Shapes.{schema_length_in}
use Rattle.model.specs.Calls.{schema_length}
use Rattle.layout.proofs.schema_length.Goals as goal

pub returns : goal.returns
unfolding schema_length_in schema_length
returns c = c.schema_length_in.ensures
