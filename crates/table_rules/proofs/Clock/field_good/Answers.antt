-- `table_rules::Clock::field_good` meets its contract.
-- Assumes nothing.
use Rattle.table_rules.proofs.Rows.{field_none, field_bad, field_plain, field_empty, field_refers}
use Rattle.table_rules.proofs.Clock.field_good.Goals as goal

pub returns-then-stamp-eq0 : goal.returns-then-stamp-eq0
returns-then-stamp-eq0 c = field_none _ _ _ _ c.if-stamp-eq0.true

pub returns-then-not-label_under : goal.returns-then-not-label_under
returns-then-not-label_under c = field_bad _ _ _ _ c.if-stamp-eq0.false _ c.label_under.ensures c.if-not-label_under.true

pub returns-then-kind-lt-ABORT : goal.returns-then-kind-lt-ABORT
returns-then-kind-lt-ABORT c = field_plain _ _ _ _ c.if-stamp-eq0.false _ c.label_under.ensures c.if-not-label_under.false c.if-kind-lt-ABORT.true

pub returns-then-value-eq0 : goal.returns-then-value-eq0
returns-then-value-eq0 c = field_empty _ _ _ _ c.if-stamp-eq0.false _ c.label_under.ensures c.if-not-label_under.false c.if-kind-lt-ABORT.false c.if-value-eq0.true

pub returns : goal.returns
returns c =
    field_refers _ _ _ _ c.if-stamp-eq0.false _ c.label_under.ensures c.if-not-label_under.false c.if-kind-lt-ABORT.false c.if-value-eq0.false _
    c.label_under-2.ensures
