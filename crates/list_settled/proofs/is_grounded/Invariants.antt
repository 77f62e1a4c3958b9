use mathlib.Core.Path.{◌≡◌}
use Rattle.model.specs.Lists.{each}
use Rattle.list_settled.proofs.Rounds.{lead_test}
use Rattle.list_settled.proofs.is_grounded.Given as goal

abbrev pub invariant-loop-j : goal.invariant-loop-j
invariant-loop-j l = l.good ≡ each l.j (lead_test l.refs l.marks l.i)
