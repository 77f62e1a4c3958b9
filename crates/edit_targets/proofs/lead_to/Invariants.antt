use mathlib.Core.Path.{◌≡◌}
use mathlib.Core.Bool.{true}
use lib.Dec.{eqb}
use lib.ListN.{length}
use Rattle.model.specs.Layout.{field_count, kind_at}
use Rattle.model.specs.Lists.{some_of}
use Rattle.model.specs.Tables.{record_of}
use Rattle.model.specs.Schemas.{is_reference}
use Rattle.model.specs.Shown.{leads}
use Rattle.edit_basics.specs.Targets.{kinds_of, bare}
use Rattle.edit_basics.proofs.Values.{rules, ahead}
use Rattle.edit_targets.proofs.lead_to.Given as goal

abbrev pub invariant-loop-j : goal.invariant-loop-j
invariant-loop-j l =
    (length l.values ≡ field_count l.t.schema.now l.r)
    × (rules (kind_at l.t.schema.now l.r) (field_count l.t.schema.now l.r) l.values l.j ≡ true)
    × (some_of (λ k. eqb (record_of l.t.table.now l.i).key k) (leads is_reference (kinds_of l.t.schema.now l.r) (bare l.values))
    ≡ some_of (λ k. eqb (record_of l.t.table.now l.i).key k) (ahead (kind_at l.t.schema.now l.r) (field_count l.t.schema.now l.r) l.values l.j))
