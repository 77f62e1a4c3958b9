-- `layout::relation_at` meets its contract.
-- Assumes nothing.
use Rattle.model.specs.Shapes.{relation_in, base_in}
use Rattle.model.specs.Layout.{relation_at, base}
use Rattle.layout.proofs.relation_at.Goals as goal

pub returns : goal.returns
unfolding relation_in relation_at base_in base
returns c = c.relation_in.ensures
