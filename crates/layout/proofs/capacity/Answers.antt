-- `layout::capacity` meets its contract.
-- Assumes nothing.
use Rattle.model.specs.Shapes.{capacity_in}
use Rattle.model.specs.Layout.{capacity_of}
use Rattle.layout.proofs.capacity.Goals as goal

pub returns : goal.returns
unfolding capacity_in capacity_of
returns c = c.capacity_in.ensures
