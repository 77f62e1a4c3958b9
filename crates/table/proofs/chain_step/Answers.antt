-- `table::chain_step` meets its contract.
-- Assumes nothing.
use Rattle.model.specs.Shapes.{chain_step_in}
use Rattle.table.proofs.chain_step.Goals as goal

pub returns : goal.returns
unfolding chain_step_in
returns g c = simp (c.used-used.ensures, c.relation_in.ensures, c.label_in.ensures, c.next_in.ensures)
