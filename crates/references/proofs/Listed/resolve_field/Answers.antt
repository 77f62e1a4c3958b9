-- `references::Listed::resolve_field` meets its contract.
-- Assumes nothing.
use Rattle.references.proofs.Refs.{fill_plain}
use Rattle.references.proofs.Listed.resolve_field.Goals as goal

pub returns-then-kind-lt-ABORT : goal.returns-then-kind-lt-ABORT
returns-then-kind-lt-ABORT c = let p = c.requires in fill_plain _ _ _ _ _ _ c.kind_at-kind.ensures c.if-kind-lt-ABORT.true p.1 p.2 p.4
