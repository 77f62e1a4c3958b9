-- `compare_within::part_within` meets its contract. The loop's invariant: the first fields are up to the other's.
-- Assumes nothing.
use mathlib.Core.Path.{sym, ◌∙◌}
use native.Mathlib.Omega.{arith}
use Rattle.compare_laws.proofs.Fields.{fields_more, fields_fail}
use Rattle.compare_within.proofs.part_within.Goals as goal

pub returns-then-not-field_within : goal.returns-then-not-field_within
returns-then-not-field_within g c = fields_fail _ _ _ _ _ _ (omega arith) (sym c.field_within.ensures ∙ c.if-not-field_within.true)

pub loop-done-preserved : goal.loop-done-preserved
loop-done-preserved g c = fields_more _ _ _ _ _ c.loop-done.invariant (sym c.field_within.ensures ∙ c.if-not-field_within.false)
