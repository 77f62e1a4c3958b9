-- `list_conflicts::records_conflict` meets its contract.
-- Assumes nothing.
use mathlib.Core.Path.{◌∙◌, ap}
use Rattle.list_conflicts.proofs.Keys.{part_length, part_values, records_on}
use Rattle.list_conflicts.specs.Keys.{values_conflict}
use Rattle.list_conflicts.proofs.records_conflict.Goals as goal

pub conflicts_on-requires : goal.conflicts_on-requires
conflicts_on-requires c = (c.requires.0, c.requires.1, part_length _ _ c.values_start-b.ensures.within)

pub returns : goal.returns
returns c =
    let p = c.requires in
    let t = c.args.t in
    c.conflicts_on.ensures ∙ ap (values_conflict _ _ _ _) (part_values _ _ _ c.values_start-b.ensures.start) ∙ records_on _ _ t.checked.schema t.checked.formed _ _ p.0 p.1 p.2 p.3 _
