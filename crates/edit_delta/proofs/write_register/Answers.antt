-- `edit_delta::write_register` meets its contract.
-- Assumes nothing.
use Rattle.edit_delta.proofs.Turns.{registered_is}
use Rattle.edit_delta.proofs.write_register.Goals as goal

pub returns : goal.returns
returns c = registered_is _ _ _ _ _ _ _ _ c.base-at.ensures c.store.ensures c.store-2.ensures
