use mathlib.Core.Path.{◌≡◌}
use mathlib.Core.Bool.{true}
use Rattle.compare_laws.specs.UpTo.{fields_up_to}
use Rattle.compare_within.proofs.part_within.Given as goal

abbrev pub invariant-loop-done : goal.invariant-loop-done
invariant-loop-done g l = true ≡ fields_up_to l.done l.first l.p l.second l.q
