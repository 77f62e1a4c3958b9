-- `layout::base_in` meets its contract.
-- Assumes nothing.
use Rattle.model.specs.Shapes.{base_in}
use borrow.Author.Rules.{rules}
use Rattle.layout.proofs.base_in.Goals as goal

pub returns : goal.returns
unfolding base_in
returns g c = search rules
