use mathlib.Core.Path.{◌≡◌}
use Rattle.edit_delta.specs.Drafting.{all_registered}
use Rattle.edit_delta.proofs.write_values.Given as goal

abbrev pub invariant-loop-j : goal.invariant-loop-j
invariant-loop-j l = l.delta ≡ all_registered l.j l.initial.delta l.i l.values l.stamp
