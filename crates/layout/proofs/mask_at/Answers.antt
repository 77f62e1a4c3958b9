-- `layout::mask_at` meets its contract.
-- Assumes nothing.
use Rattle.model.specs.Shapes.{mask_in, block_in}
use Rattle.model.specs.Layout.{mask_at, block}
use Rattle.layout.proofs.mask_at.Goals as goal

pub returns : goal.returns
unfolding mask_in mask_at block_in block
returns c = c.mask_in.ensures
