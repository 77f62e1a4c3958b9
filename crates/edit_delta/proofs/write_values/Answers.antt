-- `edit_delta::write_values` meets its contract.
-- Assumes nothing.
use Rattle.edit_delta.proofs.Turns.{registered_none, registered_next}
use Rattle.edit_delta.proofs.write_values.Goals as goal

pub loop-j-init : goal.loop-j-init
loop-j-init c = registered_none _ _ _ _

pub loop-j-preserved : goal.loop-j-preserved
loop-j-preserved c = registered_next _ _ _ _ _ _ _ c.loop-j.invariant c.write_register.ensures
