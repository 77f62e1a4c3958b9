-- `references::list_records` meets its contract.
-- Assumes nothing.
use Rattle.references.proofs.Order.{order_none}
use Rattle.references.proofs.list_records.Goals as goal

pub loop-r-init : goal.loop-r-init
loop-r-init c = order_none _ _ c.args.t.checked _
