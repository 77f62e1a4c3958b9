-- `list_walk::advance` meets its contract.
-- Assumes nothing.
use mathlib.Core.Path.{◌∙◌}
use Rattle.list_step.proofs.Steps.{place_after}
use Rattle.list_walk.proofs.advance.Goals as goal

pub returns : goal.returns
returns c = (c.step-answer.ensures, c.place_after.ensures ∙ place_after _ _ _ _ _ c.step-answer.ensures)
