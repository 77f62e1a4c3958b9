use Prim.Native.Nat.{◌-◌, ◌+◌}
use mathlib.Core.Path.{◌≡◌}
use lib.Dec.{eqb}
use Rattle.model.specs.Layout.{word}
use Rattle.model.specs.Shapes.{block_in}
use Rattle.model.specs.Lists.{each}
use Rattle.schema.proofs.Blocks.empty_block.Given as goal

abbrev pub invariant-loop-j : goal.invariant-loop-j
invariant-loop-j g l = (l.from ≡ block_in g.row.F l.r) × (l.good ≡ each l.j (λ k. eqb (word l.self.schema.now (block_in g.row.F l.r + (k - 1))) 0))
