use Prim.Native.Nat.{◌-◌}
use mathlib.Core.Path.{◌≡◌}
use mathlib.Core.Bool.{◌||◌}
use lib.Dec.{leb, eqb}
use Rattle.model.specs.Layout.{relations, first_at}
use Rattle.model.specs.Lists.{each}
use Rattle.table_rules.proofs.empty_above.Given as goal

abbrev pub invariant-loop-r : goal.invariant-loop-r
invariant-loop-r l = (l.most ≡ relations l.schema) × (l.good ≡ each (l.r - 1) (λ q. leb q (relations l.schema) || eqb (first_at l.t q) 0))
