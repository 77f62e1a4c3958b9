-- `compare_within::field_within` meets its contract.
-- Assumes nothing.
use Rattle.compare_within.proofs.Forms.{field_is}
use Rattle.compare_within.proofs.field_within.Goals as goal

pub returns : goal.returns
returns c = field_is _ _ _ _ _ _ _ _ _ c.word-old.ensures c.word-new.ensures c.word.ensures c.word-2.ensures
