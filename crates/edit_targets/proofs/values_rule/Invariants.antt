use mathlib.Core.Path.{◌≡◌}
use Rattle.model.specs.Layout.{field_count, kind_at}
use Rattle.model.specs.Edits.{values_rule}
use Rattle.edit_basics.specs.Targets.{kinds_of}
use Rattle.edit_basics.proofs.Values.{rules}
use Rattle.edit_targets.proofs.values_rule.Given as goal

abbrev pub invariant-loop-j : goal.invariant-loop-j
invariant-loop-j l = (values_rule (kinds_of l.schema l.r) l.values ≡ rules (kind_at l.schema l.r) (field_count l.schema l.r) l.values l.j)
