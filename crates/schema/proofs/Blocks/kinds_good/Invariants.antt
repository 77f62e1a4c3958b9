use mathlib.Core.Bool.{cond}
use mathlib.Core.Path.{◌≡◌}
use lib.Dec.{leb, eqb}
use Rattle.model.specs.Layout.{relations}
use Rattle.model.specs.Lists.{each}
use Rattle.model.specs.Schemas.{kind_rule}
use Rattle.model.specs.Shapes.{count_in, kind_in}
use Rattle.schema.proofs.Blocks.kinds_good.Given as goal

abbrev pub invariant-loop-j : goal.invariant-loop-j
invariant-loop-j g l =
    l.good ≡ each l.j (λ j.
    cond (leb j (count_in g.row.F l.self.schema.now l.r)) (kind_rule (relations l.self.schema.now) (kind_in g.row.F l.self.schema.now l.r j)) (eqb (kind_in g.row.F l.self.schema.now l.r j) 0))
