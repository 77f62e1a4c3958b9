-- `layout::used` meets its contract.
-- Assumes nothing.
use Rattle.model.specs.Layout.{used_at}
use Rattle.layout.proofs.used.Goals as goal

pub returns : goal.returns
unfolding used_at
returns c = c.word.ensures
