use Rattle.model.specs.Tables.{decode}
use Rattle.model.specs.Calls.{place_key}
use Rattle.list_step.proofs.Cursor.{Past, ahead}
use Rattle.list_step.proofs.after.Given as goal

abbrev pub invariant-loop-i : goal.invariant-loop-i
invariant-loop-i l = Past l.t.table.now l.marks (place_key (decode l.t.table.now) l.place) l.r l.i

abbrev pub decreases-loop-i : goal.decreases-loop-i
decreases-loop-i l = ahead l.t.table.now l.r l.i
