-- `layout::label_at` meets its contract.
-- Assumes nothing.
use Rattle.model.specs.Shapes.{label_in, base_in}
use Rattle.model.specs.Layout.{label_at, base}
use Rattle.layout.proofs.label_at.Goals as goal

pub returns : goal.returns
unfolding label_in label_at base_in base
returns c = c.label_in.ensures
