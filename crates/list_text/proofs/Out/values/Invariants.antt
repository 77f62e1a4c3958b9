use Rattle.model.specs.Layout.{field_count, kind_at, value_at}
use Rattle.model.specs.Lists.{listed}
use Rattle.list_text.specs.Text.{values_text}
use Rattle.list_text.proofs.Laying.{Leads}
use Rattle.list_text.proofs.Fields.{rest}
use Rattle.list_text.proofs.Out.values.Given as goal

abbrev pub invariant-loop-j : goal.invariant-loop-j
invariant-loop-j l =
    Leads l.initial.self
    (values_text (listed (field_count l.schema l.relation) (kind_at l.schema l.relation)) (listed (field_count l.schema l.relation) (value_at l.table l.i)))
    l.self (rest (kind_at l.schema l.relation) (value_at l.table l.i) (field_count l.schema l.relation) l.j)
