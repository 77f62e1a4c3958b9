-- `layout::field_count` meets its contract.
-- Assumes nothing.
use Rattle.model.specs.Shapes.{count_in, block_in}
use Rattle.model.specs.Layout.{field_count, block}
use Rattle.layout.proofs.field_count.Goals as goal

pub returns : goal.returns
unfolding count_in field_count block_in block
returns c = c.count_in.ensures
