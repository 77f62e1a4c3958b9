-- `list_text::Out::value` meets its contract.
-- Assumes nothing.
use Rattle.list_text.proofs.Fields.{placed_plain, placed_kind}
use Rattle.list_text.proofs.Out.value.Goals as goal

pub returns-then-kind-lt-ABORT : goal.returns-then-kind-lt-ABORT
returns-then-kind-lt-ABORT c = placed_plain _ _ c.if-kind-lt-ABORT.true c.decimal.ensures

pub returns-else-kind-lt-ABORT : goal.returns-else-kind-lt-ABORT
returns-else-kind-lt-ABORT c = placed_kind _ _ c.if-kind-lt-ABORT.false c.reference.ensures
