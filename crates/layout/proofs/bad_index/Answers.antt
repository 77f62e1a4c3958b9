-- `layout::bad_index` meets its contract.
-- Assumes nothing.
use Rattle.model.specs.Calls.{bad_index}
use Rattle.layout.proofs.bad_index.Goals as goal

pub returns : goal.returns
unfolding bad_index
returns c = simp (c.used.ensures, c.capacity.ensures)
