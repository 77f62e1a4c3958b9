use Rattle.model.specs.Records.{place}
use Rattle.references.specs.Order.{Ordered}
use Rattle.references.proofs.list_records.Given as goal

abbrev pub invariant-loop-r : goal.invariant-loop-r
invariant-loop-r l = Ordered l.t.table.now (place l.r 0) l.order l.n
