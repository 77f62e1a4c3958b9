-- `list_keys::Key::slot` meets its contract.
-- Assumes nothing.
use Rattle.list_keys.proofs.Bucketed.{slot_empty, slot_own}
use Rattle.list_keys.proofs.Key.slot.Goals as goal

pub returns-then-not-records_conflict : goal.returns-then-not-records_conflict
returns-then-not-records_conflict c = slot_empty _ _ _ _ _ c.records_conflict.ensures c.if-not-records_conflict.true

pub returns : goal.returns
returns c = slot_own _ _ _ _ _ c.records_conflict.ensures c.if-not-records_conflict.false _ c.bucket.ensures
