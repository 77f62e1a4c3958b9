use Prim.Native.Nat.{◌-◌}
use Rattle.model.specs.Layout.{used_at}
use Rattle.references.proofs.Order.{Along}
use Rattle.references.proofs.list_chain.Given as goal

abbrev pub invariant-loop-i : goal.invariant-loop-i
invariant-loop-i l = Along l.t.table.now l.r l.i l.order l.n

abbrev pub decreases-loop-i : goal.decreases-loop-i
decreases-loop-i l = used_at l.t.table.now - l.n
