-- `schema::Blocks::good` meets its contract.
-- Assumes nothing.
use native.Mathlib.Omega.{arith}
use Rattle.layout.proofs.Each.{each_none, each_up}
use Rattle.schema.proofs.Blocks.good.Goals as goal

pub loop-r-init : goal.loop-r-init
loop-r-init g c = each_none _

pub loop-r-preserved : goal.loop-r-preserved
loop-r-preserved g c = each_up _ _ _ _ (omega arith) c.loop-r.invariant c.block_placed-good.ensures
