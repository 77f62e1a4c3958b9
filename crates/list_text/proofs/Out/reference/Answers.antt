-- `list_text::Out::reference` meets its contract.
-- Assumes nothing.
use Rattle.list_text.proofs.Fields.{placed_empty, placed_reference}
use Rattle.list_text.proofs.Out.reference.Goals as goal

pub returns-then-x-eq0 : goal.returns-then-x-eq0
returns-then-x-eq0 c = placed_empty _ c.if-x-eq0.true c.put.ensures

pub returns-else-x-eq0 : goal.returns-else-x-eq0
returns-else-x-eq0 c = placed_reference _ c.if-x-eq0.false c.label.ensures
