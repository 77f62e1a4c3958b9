use Prim.Native.Nat.{◌+◌}
use mathlib.Core.Path.{◌≡◌}
use Rattle.model.specs.Layout.{used_at}
use Rattle.table.proofs.Links.{Ahead}
use Rattle.table.proofs.walk_to.Given as goal

abbrev pub invariant-loop-left : goal.invariant-loop-left
invariant-loop-left g l = (l.n + l.left ≡ used_at l.of.table.now + 1) × Ahead g.row.F l.of.schema.now l.of.table.now l.r l.label l.left l.low l.n l.i

abbrev pub decreases-loop-left : goal.decreases-loop-left
decreases-loop-left g l = l.left
