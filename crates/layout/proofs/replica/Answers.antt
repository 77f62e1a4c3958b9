-- `layout::replica` meets its contract.
-- Assumes nothing.
use Rattle.model.specs.Layout.{replica_at}
use Rattle.layout.proofs.replica.Goals as goal

pub returns : goal.returns
unfolding replica_at
returns c = c.word.ensures
