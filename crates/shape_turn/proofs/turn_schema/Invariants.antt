use Prim.Native.Nat.{◌+◌, ◌*◌}
use mathlib.Core.Path.{◌≡◌}
use lib.ListN.{length}
use Rattle.model.specs.Layout.{most_relations}
use Rattle.shape_turn.proofs.Written.{Blocks}
use Rattle.shape_turn.proofs.turn_schema.Given as goal

abbrev pub invariant-loop-r : goal.invariant-loop-r
invariant-loop-r g l = (length l.to ≡ 1 + (g.row.W + 4) * most_relations) × Blocks g.row.V g.row.W l.s l.r l.to
