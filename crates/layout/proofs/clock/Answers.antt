-- `layout::clock` meets its contract.
-- Assumes nothing.
use Rattle.model.specs.Layout.{clock_at}
use Rattle.layout.proofs.clock.Goals as goal

pub returns : goal.returns
unfolding clock_at
returns c = c.word.ensures
