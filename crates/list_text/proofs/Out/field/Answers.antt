-- `list_text::Out::field` meets its contract.
-- Assumes nothing.
use Rattle.list_text.proofs.Laying.{then}
use Rattle.list_text.proofs.Out.field.Goals as goal

pub returns : goal.returns
returns c = then _ _ c.put.ensures c.value.ensures
