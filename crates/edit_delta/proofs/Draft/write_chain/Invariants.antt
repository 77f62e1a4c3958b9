use Prim.Native.Nat.{◌-◌}
use mathlib.Core.Path.{◌≡◌}
use Rattle.model.specs.Tables.{encode}
use Rattle.edit_delta.specs.Drafting.{key_of, drafted, end_of}
use Rattle.edit_delta.proofs.Steps.{cursor, Stands}
use Rattle.edit_delta.proofs.Draft.write_chain.Given as goal

abbrev pub invariant-loop-i : goal.invariant-loop-i
invariant-loop-i l =
    Stands l.self.table.now l.relation l.i
    × (l.delta ≡ encode (drafted l.self.table.now (key_of l.self.table.now l.self.index l.self.fresh) l.self.redo.now (cursor l.self.table.now l.relation l.i)))

abbrev pub decreases-loop-i : goal.decreases-loop-i
decreases-loop-i l = end_of l.self.table.now l.relation - cursor l.self.table.now l.relation l.i
