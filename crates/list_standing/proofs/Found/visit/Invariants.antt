use Prim.Native.Nat.{◌-◌}
use Rattle.list_standing.specs.Work.{Queue, More, Visited}
use Rattle.list_standing.proofs.Found.visit.Given as goal

abbrev pub invariant-loop-j : goal.invariant-loop-j
invariant-loop-j l = Queue l.resolved.t.schema.now l.resolved.t.table.now l.marks l.self.entries l.self.count
    × More l.resolved.t.table.now l.initial.marks l.initial.self.entries l.initial.self.count l.marks l.self.entries l.self.count
    × Visited l.resolved.t.schema.now l.resolved.t.table.now l.marks l.i (l.j - 1)
