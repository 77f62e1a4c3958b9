-- `layout::kind_at` meets its contract.
-- Assumes nothing.
use Rattle.model.specs.Shapes.{kind_in, block_in}
use Rattle.model.specs.Layout.{kind_at, block}
use Rattle.layout.proofs.kind_at.Goals as goal

pub returns : goal.returns
unfolding kind_in kind_at block_in block
returns c = c.kind_in.ensures
