use Prim.Native.Nat.{◌-◌}
use Rattle.list_standing.specs.Work.{Queue}
use Rattle.list_standing.proofs.Work.{LiveTo}
use Rattle.list_standing.proofs.Found.start.Given as goal

abbrev pub invariant-loop-i : goal.invariant-loop-i
invariant-loop-i l = Queue l.t.schema.now l.t.table.now l.marks l.self.entries l.self.count × LiveTo l.t.schema.now l.t.table.now l.marks (l.i - 1)
