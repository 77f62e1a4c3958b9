-- `merge_join::join` meets its contract. The flag, then the registers.
-- Assumes nothing.
use Rattle.merge_join.proofs.Forms.{join_is, join_changed}
use Rattle.merge_join.proofs.join.Goals as goal

pub returns : goal.returns
returns c = record { words = join_is _ _ _ _ _ _ c.join_flag-flag.ensures.words c.join_fields-fields.ensures.words; changed = join_changed _ _ _ _ _ _ _ c.join_flag-flag.ensures.words c.join_flag-flag.ensures.changed c.join_fields-fields.ensures.changed }
