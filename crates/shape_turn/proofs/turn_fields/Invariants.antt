use mathlib.Core.Path.{◌≡◌}
use lib.ListN.{length}
use lib.Seq.{paste}
use Rattle.shape_turn.specs.Rows.{fields_after}
use Rattle.shape_turn.proofs.turn_fields.Given as goal

abbrev pub invariant-loop-j : goal.invariant-loop-j
invariant-loop-j g l = (length l.to ≡ length l.initial.to) × (l.to ≡ paste l.initial.to l.b (fields_after g.row.V g.row.W l.from l.p) l.j)
