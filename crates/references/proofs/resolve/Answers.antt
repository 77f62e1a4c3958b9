-- `references::resolve` meets its contract.
-- Assumes nothing.
use native.Mathlib.Omega.{arith}
use Rattle.references.proofs.Places.{used_most}
use Rattle.references.proofs.Order.{order_room, order_pair}
use Rattle.references.proofs.resolve.Goals as goal

pub list_keys-requires : goal.list_keys-requires
list_keys-requires c =
    let n = c.list_records-n in
    let l = order_room _ _ c.args.t.checked _ _ _ n.ensures in
    let m = used_most _ _ c.args.t.checked in
    order_pair _ _ _ _ _ (omega arith) (omega arith) n.ensures
