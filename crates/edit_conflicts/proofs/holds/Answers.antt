-- `edit_conflicts::holds` meets its contract.
-- Assumes nothing.
use Rattle.edit_basics.proofs.Turns.{not_left}
use Rattle.edit_laws.proofs.DeletionNumber.{aborting_hidden, aborting_self, aborting_here}
use Rattle.std.proofs.lemmas.Bool.{not_from_true}
use Rattle.edit_conflicts.proofs.holds.Goals as goal

pub returns-then-not-is_marked : goal.returns-then-not-is_marked
returns-then-not-is_marked c = aborting_hidden _ _ _ _ _ c.requires.0 c.requires.1 _ c.is_marked.ensures (c.if-not-is_marked.true)

pub returns-then-y-i : goal.returns-then-y-i
returns-then-y-i c = aborting_self _ _ _ _ _ c.requires.0 c.requires.1 c.if-y-i.true

pub returns : goal.returns
returns c = aborting_here _ _ _ _ _ c.requires.0 c.requires.1 _ _ c.is_marked.ensures (not_left _ (not_from_true _ c.if-not-is_marked.false)) c.if-y-i.false c.aborts.ensures
