-- `layout::capacity_in` meets its contract.
-- Assumes nothing.
use Rattle.model.specs.Shapes.{capacity_in}
use borrow.Author.Rules.{rules}
use Rattle.layout.proofs.capacity_in.Goals as goal

pub returns : goal.returns
unfolding capacity_in
returns g c = search rules
