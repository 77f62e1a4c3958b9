use Rattle.marks.proofs.Chain.{left}
use Rattle.list_keys.proofs.Passing.{Going}
use Rattle.list_keys.proofs.keep_along.Given as goal

abbrev pub invariant-loop-i : goal.invariant-loop-i
invariant-loop-i l = Going l.t.schema.now l.t.table.now l.r l.first l.second l.marks l.i

abbrev pub decreases-loop-i : goal.decreases-loop-i
decreases-loop-i l = left l.t.table.now l.i
