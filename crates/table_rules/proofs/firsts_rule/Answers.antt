-- `table_rules::firsts_rule` meets its contract.
-- Assumes nothing.
use native.Mathlib.Omega.{arith}
use Rattle.model.specs.WellFormed.{firsts_rule}
use Rattle.layout.proofs.Each.{each_none}
use Rattle.table_rules.proofs.Rules.{firsts_more}
use Rattle.table_rules.proofs.firsts_rule.Goals as goal
use borrow.Author.Rules.{rules}

pub loop-r-init : goal.loop-r-init
loop-r-init c = (c.used-used.ensures, each_none _)

pub loop-r-preserved : goal.loop-r-preserved
loop-r-preserved c = (c.loop-r.invariant.0, firsts_more _ _ _ _ _ (omega arith) c.first_at.ensures c.loop-r.invariant.0 c.loop-r.invariant.1)

pub returns : goal.returns
unfolding firsts_rule
returns c = search rules
