use lib.ListN.{length}
use Prim.Native.Nat.{◌≤◌, ◌-◌}
use mathlib.Core.Path.{◌≡◌}
use Rattle.model.specs.Layout.{fields}
use Rattle.merge_laws.specs.Absorb.{fields_joined, fields_changed}
use Rattle.merge_join.proofs.join_fields.Given as goal

abbrev pub invariant-loop-done : goal.invariant-loop-done
invariant-loop-done l = (length l.own ≡ length l.initial.own) × (l.own ≡ fields_joined l.done l.initial.own l.i l.other l.j) × (l.changed ≡ fields_changed l.done l.initial.own l.i l.other l.j)
