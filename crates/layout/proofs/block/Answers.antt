-- `layout::block` meets its contract.
-- Assumes nothing.
use Rattle.model.specs.Shapes.{block_in}
use Rattle.model.specs.Layout.{block}
use Rattle.layout.proofs.block.Goals as goal

pub returns : goal.returns
unfolding block_in block
returns c = c.block_in.ensures
