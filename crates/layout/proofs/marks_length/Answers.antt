-- `layout::marks_length` meets its contract.
-- Assumes nothing.
use Rattle.model.specs.Calls.{marks_length}
use Rattle.layout.proofs.marks_length.Goals as goal

pub returns : goal.returns
unfolding marks_length
returns c = simp c.capacity.ensures
