use mathlib.Core.Path.{◌≡◌}
use Rattle.model.specs.Layout.{field_count, kind_at}
use Rattle.model.specs.Lists.{listed}
use Rattle.model.specs.Shown.{equal_on}
use Rattle.list_conflicts.specs.Keys.{registers}
use Rattle.list_conflicts.proofs.Keys.{onward}
use Rattle.list_conflicts.proofs.equal_on.Given as goal

abbrev pub invariant-loop-j : goal.invariant-loop-j
invariant-loop-j l =
    equal_on l.mask (listed (field_count l.schema l.r) (kind_at l.schema l.r)) (registers l.a) (registers l.b)
    ≡ onward (kind_at l.schema l.r) (field_count l.schema l.r) l.a l.b l.m l.j
