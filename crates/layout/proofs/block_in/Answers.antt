-- `layout::block_in` meets its contract.
-- Assumes nothing.
use Rattle.model.specs.Shapes.{block_in}
use borrow.Author.Rules.{rules}
use Rattle.layout.proofs.block_in.Goals as goal

pub returns : goal.returns
unfolding block_in
returns g c = search rules
