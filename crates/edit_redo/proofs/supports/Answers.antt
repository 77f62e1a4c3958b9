-- `edit_redo::supports` meets its contract.
-- Assumes nothing.
use Rattle.edit_basics.proofs.Turns.{not_left}
use Rattle.edit_laws.proofs.Picks.{backs_self, backs_dead, backs_live}
use Rattle.std.proofs.lemmas.Bool.{not_from_true}
use Rattle.edit_redo.proofs.supports.Goals as goal

pub returns-then-y-but : goal.returns-then-y-but
returns-then-y-but c = backs_self _ _ _ _ _ c.requires.0 c.requires.1 c.if-y-but.true

pub returns-then-not-is_live : goal.returns-then-not-is_live
returns-then-not-is_live c = backs_dead _ _ _ _ _ c.requires.0 c.requires.1 _ c.is_live.ensures (c.if-not-is_live.true)

pub returns : goal.returns
returns c = backs_live _ _ _ _ _ c.requires.0 c.requires.1 _ _ c.if-y-but.false c.is_live.ensures (not_left _ (not_from_true _ c.if-not-is_live.false)) c.refers.ensures
