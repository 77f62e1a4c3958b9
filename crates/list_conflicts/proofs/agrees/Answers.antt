-- `list_conflicts::agrees` meets its contract.
-- Assumes nothing.
use mathlib.Core.Path.{refl}
use Rattle.list_conflicts.proofs.agrees.Goals as goal

pub returns : goal.returns
returns c = refl
