-- `merge_seek::meets` meets its contract. A record's label against the one sought.
-- Assumes nothing.
use Rattle.merge_seek.proofs.Forms.{meets_is}
use Rattle.merge_seek.proofs.meets.Goals as goal

pub returns : goal.returns
returns c = meets_is _ _ _ _ _ c.word-i.ensures c.label_at.ensures
