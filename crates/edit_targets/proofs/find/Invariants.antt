use Rattle.marks.proofs.Chain.{left}
use Rattle.edit_basics.proofs.Chain.{Seeking}
use Rattle.edit_targets.proofs.find.Given as goal

abbrev pub invariant-loop-i : goal.invariant-loop-i
invariant-loop-i l = Seeking l.t.table.now l.r l.label l.i

abbrev pub decreases-loop-i : goal.decreases-loop-i
decreases-loop-i l = left l.t.table.now l.i
