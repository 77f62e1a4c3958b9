use Prim.Native.Nat.{◌+◌, ◌*◌, ◌-◌}
use Rattle.model.specs.Layout.{fields}
use Rattle.references.specs.Resolved.{Filled}
use Rattle.references.proofs.Listed.resolve_all.Given as goal

abbrev pub invariant-loop-r : goal.invariant-loop-r
invariant-loop-r l = Filled l.self.t.schema.now l.self.t.table.now l.refs (fields * l.r)

abbrev pub invariant-loop-j : goal.invariant-loop-j
invariant-loop-j l = Filled l.self.t.schema.now l.self.t.table.now l.refs (fields * l.r + (l.j - 1))
