use mathlib.Core.Path.{◌≡◌}
use lib.Dec.{ltb}
use Rattle.model.specs.Lists.{any}
use Rattle.model.specs.Shapes.{count_in}
use Rattle.shapes.proofs.wider.Given as goal

abbrev pub invariant-loop-r : goal.invariant-loop-r
invariant-loop-r g l = l.wide ≡ any l.r (λ q. ltb g.row.W (count_in g.row.V l.schema q))
