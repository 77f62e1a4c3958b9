-- `list_text::Out::label` meets its contract.
-- Assumes nothing.
use Rattle.list_text.proofs.Fields.{placed_label}
use Rattle.list_text.proofs.Out.label.Goals as goal

pub returns : goal.returns
returns c = placed_label _ _ _ c.counter.ensures c.replica.ensures c.decimal.ensures c.put.ensures c.decimal-2.ensures
