-- `table_rules::header_rules_in` meets its contract.
-- Assumes nothing.
use Rattle.table_rules.proofs.Rules.{header_tested}
use Rattle.table_rules.proofs.header_rules_in.Goals as goal

pub returns : goal.returns
returns g c =
    header_tested _ _ _ _ _ _ _ _ c.replica-replica.ensures c.clock-clock.ensures c.used.ensures c.capacity_in.ensures c.word-third.ensures
    c.zero_words-zeros.ensures
