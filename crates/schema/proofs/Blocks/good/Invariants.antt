use Prim.Native.Nat.{◌-◌}
use mathlib.Core.Bool.{cond}
use mathlib.Core.Path.{◌≡◌}
use lib.Dec.{leb}
use Rattle.model.specs.Layout.{relations}
use Rattle.model.specs.Lists.{each}
use Rattle.model.specs.Shapes.{block_rule_in, empty_block_in}
use Rattle.schema.proofs.Blocks.good.Given as goal

abbrev pub invariant-loop-r : goal.invariant-loop-r
invariant-loop-r g l = l.good ≡ each (l.r - 1) (λ r. cond (leb r (relations l.self.schema.now)) (block_rule_in g.row.F l.self.schema.now r) (empty_block_in g.row.F l.self.schema.now r))
