-- `layout::base` meets its contract.
-- Assumes nothing.
use Rattle.model.specs.Shapes.{base_in}
use Rattle.model.specs.Layout.{base}
use Rattle.layout.proofs.base.Goals as goal

pub returns : goal.returns
unfolding base_in base
returns c = c.base_in.ensures
