-- `table_rules::Clock::label_under` meets its contract.
-- Assumes nothing.
use Rattle.table_rules.proofs.Rows.{label_under_lem}
use Rattle.table_rules.proofs.Clock.label_under.Goals as goal

pub returns : goal.returns
returns c = label_under_lem _ _ _ _ c.args.self.within c.counter-counter.ensures c.replica.ensures
