-- `edit_record::append` meets its contract.
-- Assumes nothing.
use Rattle.edit_record.proofs.Words.{appended_is}
use Rattle.edit_record.proofs.append.Goals as goal

pub returns : goal.returns
returns c = appended_is _ _ _ _ _ _ _ _ _ _ _ _ c.link-from.ensures c.used-new.ensures c.base-at.ensures c.store.ensures c.store-2.ensures c.store-3.ensures c.store-4.ensures c.store-5.ensures
