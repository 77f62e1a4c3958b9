use Prim.Native.Nat.{◌+◌, ◌*◌}
use mathlib.Core.Path.{◌≡◌}
use lib.ListN.{length}
use Rattle.model.specs.Layout.{header_words, head_words}
use Rattle.model.specs.Shapes.{capacity_in}
use Rattle.shape_turn.proofs.Written.{Rows}
use Rattle.shape_turn.proofs.turn_table.Given as goal

abbrev pub invariant-loop-i : goal.invariant-loop-i
invariant-loop-i g l = (length l.to ≡ header_words + (head_words + 2 * g.row.W) * capacity_in g.row.V l.t) × Rows g.row.V g.row.W l.t l.i l.to
