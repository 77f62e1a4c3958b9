-- `layout::delta_length` meets its contract.
-- Assumes nothing.
use Rattle.model.specs.Calls.{delta_length}
use borrow.Author.Rules.{rules}
use Rattle.layout.proofs.delta_length.Goals as goal

pub returns : goal.returns
unfolding delta_length
returns c = search rules
