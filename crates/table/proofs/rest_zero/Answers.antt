-- `table::rest_zero` meets its contract.
-- Assumes nothing.
use Rattle.table_rules.proofs.Rules.{rest_first, rest_next, rest_last}
use Rattle.table.proofs.rest_zero.Goals as goal

pub loop-k-init : goal.loop-k-init
loop-k-init g c = rest_first _ _ _ _ c.used.ensures c.base_in-k.ensures

pub loop-k-preserved : goal.loop-k-preserved
loop-k-preserved g c = rest_next c.args.t.now c.loop-k.good c.loop-k.k c.loop-k-test.true c.loop-k.invariant

pub returns : goal.returns
returns g c = rest_last _ _ _ c.loop-k-test.false c.loop-k.invariant
