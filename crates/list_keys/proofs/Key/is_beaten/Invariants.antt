use Rattle.list_keys.proofs.Bucketed.{Walk, fall}
use Rattle.list_keys.proofs.Key.is_beaten.Given as goal

abbrev pub invariant-loop-at : goal.invariant-loop-at
invariant-loop-at l = Walk l.t.schema.now l.t.table.now l.marks l.self.mask l.i l.at

abbrev pub decreases-loop-at : goal.decreases-loop-at
decreases-loop-at l = fall l.t.table.now l.at
