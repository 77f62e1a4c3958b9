use Rattle.list_settled.specs.Rounds.{ones}
use Rattle.list_settled.proofs.Between.{Between}
use Rattle.list_settled.proofs.settle.Given as goal

abbrev pub invariant-loop : goal.invariant-loop
invariant-loop l = Between l.resolved.t.schema.now l.resolved.t.table.now l.marks

abbrev pub decreases-loop : goal.decreases-loop
decreases-loop l = ones l.marks
