-- `merge::absent` meets its contract.
-- Assumes nothing.
use Rattle.merge.proofs.Counts.{absent_is}
use Rattle.merge.proofs.absent.Goals as goal

pub returns : goal.returns
returns c = absent_is _ _ _ c.meets.ensures c.from.ensures
