-- `list_text::Out::head` meets its contract.
-- Assumes nothing.
use Rattle.list_text.proofs.Fields.{placed_head}
use Rattle.list_text.proofs.Out.head.Goals as goal

pub returns : goal.returns
returns c = placed_head _ _ c.decimal.ensures c.put.ensures c.label.ensures
