use Rattle.model.specs.Records.{place}
use Rattle.list_keys.specs.Passes.{Upto}
use Rattle.list_keys.proofs.keep.Given as goal

abbrev pub invariant-loop-r : goal.invariant-loop-r
invariant-loop-r l = Upto l.t.schema.now l.t.table.now (place l.r 0) l.marks
