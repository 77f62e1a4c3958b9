use Prim.Native.Nat.{◌≤◌}
use Rattle.edit_delta.specs.Drafting.{Findable}
use Rattle.edit_delta.proofs.find.Given as goal

abbrev pub invariant-loop-i : goal.invariant-loop-i
invariant-loop-i l = (f : Findable l.delta l.relation l.label) × (l.i ≤ f.index)
