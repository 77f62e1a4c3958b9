-- `edit_update::is_update_taken` meets its contract.
-- Assumes nothing.
use Rattle.edit_laws.proofs.UpdateNumber.{taken_as}
use Rattle.edit_update.proofs.is_update_taken.Goals as goal

pub returns : goal.returns
returns c = taken_as _ _ _ _ _ c.requires.0 _ c.requires.2 c.requires.3 c.renew-renewed.ensures _ _ _ _ _ c.relation_at-r.ensures c.mask_at.ensures c.mask_at-2.ensures c.narrow-first.ensures c.narrow-second.ensures _ c.is_taken.ensures
