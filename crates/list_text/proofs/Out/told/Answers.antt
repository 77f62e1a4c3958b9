-- `list_text::Out::told` meets its contract.
-- Assumes nothing.
use Rattle.list_text.proofs.Fields.{placed_told}
use Rattle.list_text.proofs.Out.told.Goals as goal

pub returns : goal.returns
returns c = placed_told _ _ c.copy.ensures c.decimal.ensures c.put.ensures
