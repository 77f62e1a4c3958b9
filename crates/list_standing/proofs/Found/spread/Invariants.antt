use Prim.Native.Nat.{◌≤◌, ◌-◌}
use Rattle.model.specs.Layout.{used_at}
use Rattle.list_standing.specs.Work.{Queue, Live}
use Rattle.list_standing.proofs.Work.{Done}
use Rattle.list_standing.proofs.Found.spread.Given as goal

abbrev pub invariant-loop-k : goal.invariant-loop-k
invariant-loop-k l = (l.k ≤ l.self.count) × Queue l.resolved.t.schema.now l.resolved.t.table.now l.marks l.self.entries l.self.count
    × Live l.resolved.t.schema.now l.resolved.t.table.now l.marks
    × Done l.resolved.t.schema.now l.resolved.t.table.now l.marks l.self.entries l.k

abbrev pub decreases-loop-k : goal.decreases-loop-k
decreases-loop-k l = used_at l.resolved.t.table.now - l.k
