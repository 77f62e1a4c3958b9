use mathlib.Core.Path.{◌≡◌}
use mathlib.Core.Bool.{◌&&◌}
use lib.Dec.{eqb}
use lib.ListN.{drop}
use Rattle.model.specs.Lists.{all_of}
use Rattle.model.specs.Shapes.{rest_zero_in}
use Rattle.table.proofs.rest_zero.Given as goal

abbrev pub invariant-loop-k : goal.invariant-loop-k
invariant-loop-k g l = (l.good && all_of (λ x. eqb x 0) (drop l.k l.t)) ≡ rest_zero_in g.row.F l.t
