use Prim.Native.Nat.{ℕ}
use Rattle.references.specs.Resolved.{Filled}
use Rattle.references.proofs.Refs.{Rights}
use Rattle.references.proofs.Listed.resolve_field.Given as goal

abbrev pub invariant-loop-p : goal.invariant-loop-p
invariant-loop-p l = ((m : ℕ) → Filled l.self.t.schema.now l.self.t.table.now l.initial.refs m → Filled l.self.t.schema.now l.self.t.table.now l.refs m)
    × Rights l.self.t.schema.now l.self.t.table.now l.source l.refs l.j l.p-index
