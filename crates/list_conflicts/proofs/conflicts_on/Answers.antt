-- `list_conflicts::conflicts_on` meets its contract.
-- Assumes nothing.
use Rattle.list_conflicts.proofs.Keys.{few_fields, few_of, part_length, part_lent}
use Rattle.list_conflicts.proofs.conflicts_on.Goals as goal

pub conflict-requires : goal.conflict-requires
conflict-requires c =
    let p = c.requires in
    (part_length _ _ c.values_start-a.ensures.within, p.2, few_of _ _ _ _ c.relation_at-r.ensures (few_fields _ _ c.args.t.checked.schema c.args.t.checked.formed _ p.0 p.1))

pub returns : goal.returns
returns c = part_lent _ _ _ _ _ _ _ _ c.relation_at-r.ensures c.values_start-a.ensures.start c.conflict.ensures
