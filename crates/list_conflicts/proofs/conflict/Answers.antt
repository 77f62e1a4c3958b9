-- `list_conflicts::conflict` meets its contract.
-- Assumes nothing.
use Rattle.list_conflicts.proofs.Keys.{no_key, a_key}
use Rattle.list_conflicts.proofs.conflict.Goals as goal

pub returns-then-mask-eq0 : goal.returns-then-mask-eq0
returns-then-mask-eq0 c = no_key _ _ _ _ _ c.if-mask-eq0.true

pub returns : goal.returns
returns c = a_key _ _ _ _ _ _ c.if-mask-eq0.false c.equal_on.ensures
