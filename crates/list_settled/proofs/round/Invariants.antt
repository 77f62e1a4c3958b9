use mathlib.Core.Path.{◌≡◌}
use Rattle.list_settled.specs.Rounds.{round_of, drops_any}
use Rattle.list_settled.proofs.round.Given as goal

abbrev pub invariant-loop-i : goal.invariant-loop-i
invariant-loop-i l = (l.any ≡ drops_any l.refs l.initial.marks l.i) × (l.marks ≡ round_of l.refs l.initial.marks l.i)
