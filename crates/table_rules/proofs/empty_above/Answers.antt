-- `table_rules::empty_above` meets its contract.
-- Assumes nothing.
use native.Mathlib.Omega.{arith}
use Rattle.model.specs.WellFormed.{empty_above}
use Rattle.layout.proofs.Each.{each_none}
use Rattle.table_rules.proofs.Rules.{above_more}
use Rattle.table_rules.proofs.empty_above.Goals as goal
use borrow.Author.Rules.{rules}

pub loop-r-init : goal.loop-r-init
loop-r-init c = (c.relations-most.ensures, each_none _)

pub loop-r-preserved : goal.loop-r-preserved
loop-r-preserved c = (c.loop-r.invariant.0, above_more _ _ _ _ _ _ (omega arith) c.first_at.ensures c.loop-r.invariant.0 c.loop-r.invariant.1)

pub returns : goal.returns
unfolding empty_above
returns c = search rules
