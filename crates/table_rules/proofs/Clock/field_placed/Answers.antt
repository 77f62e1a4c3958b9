-- `table_rules::Clock::field_placed` meets its contract.
-- Assumes nothing.
use Rattle.table_rules.proofs.Rows.{placed_in, placed_above}
use Rattle.table_rules.proofs.Clock.field_placed.Goals as goal

pub returns-then-j-count : goal.returns-then-j-count
returns-then-j-count c = placed_in _ _ _ _ _ _ _ c.if-j-count.true c.field_good.ensures

pub returns : goal.returns
returns c = placed_above _ _ _ _ _ _ c.if-j-count.false
