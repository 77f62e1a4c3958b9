use Prim.Native.Nat.{◌-◌}
use mathlib.Core.Path.{◌≡◌}
use lib.Dec.{leb}
use Rattle.model.specs.Layout.{used_at, first_at}
use Rattle.model.specs.Lists.{each}
use Rattle.table_rules.proofs.firsts_rule.Given as goal

abbrev pub invariant-loop-r : goal.invariant-loop-r
invariant-loop-r l = (l.used ≡ used_at l.t) × (l.good ≡ each (l.r - 1) (λ q. leb (first_at l.t q) (used_at l.t)))
