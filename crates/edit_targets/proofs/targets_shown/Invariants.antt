use mathlib.Core.Path.{◌≡◌}
use mathlib.Core.Bool.{true}
use lib.ListN.{length}
use Rattle.model.specs.Layout.{field_count, kind_at}
use Rattle.model.specs.Lists.{all_of}
use Rattle.model.specs.Schemas.{is_reference, schema_of}
use Rattle.model.specs.Records.{has}
use Rattle.model.specs.Shown.{leads, shown}
use Rattle.edit_basics.specs.Targets.{kinds_of, bare, held}
use Rattle.edit_basics.proofs.Values.{rules, ahead}
use Rattle.edit_targets.proofs.targets_shown.Given as goal

abbrev pub invariant-loop-j : goal.invariant-loop-j
invariant-loop-j l =
    (length l.values ≡ field_count l.s.t.schema.now l.r)
    × (rules (kind_at l.s.t.schema.now l.r) (field_count l.s.t.schema.now l.r) l.values l.j ≡ true)
    × (all_of (has (shown (schema_of l.s.t.schema.now) (held l.s.t.table.now))) (leads is_reference (kinds_of l.s.t.schema.now l.r) (bare l.values))
    ≡ all_of (has (shown (schema_of l.s.t.schema.now) (held l.s.t.table.now))) (ahead (kind_at l.s.t.schema.now l.r) (field_count l.s.t.schema.now l.r) l.values l.j))
