-- `list_keys::bucket` meets its contract.
-- Assumes nothing.
use Rattle.list_conflicts.proofs.Keys.{few_fields, few_of, part_length}
use Rattle.list_keys.proofs.Digests.{bucket_is}
use Rattle.list_keys.proofs.bucket.Goals as goal

pub digest-requires : goal.digest-requires
digest-requires c =
    (part_length _ _ c.values_start-a.ensures.within, few_of _ _ _ _ c.relation_at-r.ensures (few_fields _ _ c.args.t.checked.schema c.args.t.checked.formed _ c.requires.0 c.requires.1))

pub returns : goal.returns
returns c = bucket_is _ _ _ _ _ _ _ c.relation_at-r.ensures c.values_start-a.ensures.start c.digest.ensures
