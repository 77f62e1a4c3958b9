-- `merge_seek::precedes` meets its contract. A record's label against the one sought.
-- Assumes nothing.
use Rattle.merge_seek.proofs.Forms.{precedes_is}
use Rattle.merge_seek.proofs.precedes.Goals as goal

pub returns : goal.returns
returns c = precedes_is _ _ _ _ _ c.word-i.ensures c.label_at.ensures
