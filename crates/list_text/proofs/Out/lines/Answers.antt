-- `list_text::Out::lines` meets its contract.
-- Assumes nothing.
use Rattle.list_text.proofs.Turns.{lines_refused}
use Rattle.list_text.proofs.Out.lines.Goals as goal

pub returns-in_default : goal.returns-in_default
returns-in_default c = lines_refused _ _ _ _ (rw c.in_default.is at c.walkable.ensures)
