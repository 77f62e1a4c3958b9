-- `layout::schema_length_in` meets its contract.
-- Assumes nothing.
use Rattle.model.specs.Shapes.{schema_length_in}
use borrow.Author.Rules.{rules}
use Rattle.layout.proofs.schema_length_in.Goals as goal

pub returns : goal.returns
unfolding schema_length_in
returns g c = search rules
