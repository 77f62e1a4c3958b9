-- `layout::relations` meets its contract.
-- Assumes nothing.
use Rattle.model.specs.Layout.{relations}
use Rattle.layout.proofs.relations.Goals as goal

pub returns : goal.returns
unfolding relations
returns c = c.word.ensures
