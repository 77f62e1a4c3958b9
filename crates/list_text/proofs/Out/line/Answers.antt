-- `list_text::Out::line` meets its contract.
-- Assumes nothing.
use Rattle.list_text.proofs.Fields.{placed_line}
use Rattle.list_text.proofs.Out.line.Goals as goal

pub returns : goal.returns
returns c = placed_line _ _ _ _ _ c.relation_at-r.ensures c.label_at.ensures c.head.ensures c.values.ensures c.put.ensures
