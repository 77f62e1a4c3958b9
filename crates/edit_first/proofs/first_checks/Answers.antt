-- `edit_first::first_checks` meets its contract. The answer is the lowest check that applies.
-- Assumes nothing.
use mathlib.Core.Path.{◌∙◌}
use Rattle.edit_laws.proofs.First.{first_length, first_judged}
use Rattle.edit_first.proofs.first_checks.Goals as goal

pub returns-then-lengths-bad-clause-number : goal.returns-then-lengths-bad-clause-number
returns-then-lengths-bad-clause-number c = first_length _ _ _ _ _ _ _ c.schema_length.ensures c.table_length.ensures c.delta_length.ensures c.if-lengths-bad.true

pub returns-clause-number : goal.returns-clause-number
returns-clause-number c = c.judge.ensures.number ∙ first_judged _ _ _ _ _ _ _ c.schema_length.ensures c.table_length.ensures c.delta_length.ensures c.if-lengths-bad.false
