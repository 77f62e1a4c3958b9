-- `layout::next_at` meets its contract.
-- Assumes nothing.
use Rattle.model.specs.Shapes.{next_in, base_in}
use Rattle.model.specs.Layout.{next_at, base}
use Rattle.layout.proofs.next_at.Goals as goal

pub returns : goal.returns
unfolding next_in next_at base_in base
returns c = c.next_in.ensures
