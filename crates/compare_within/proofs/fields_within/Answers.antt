-- `compare_within::fields_within` meets its contract: half of the fields, then all.
-- Assumes nothing.
use mathlib.Core.Path.{sym, ◌∙◌}
use native.Mathlib.Omega.{arith}
use Rattle.compare_laws.proofs.Fields.{fields_none, fails_within}
use Rattle.compare_within.proofs.fields_within.Goals as goal

pub part_within-requires : goal.part_within-requires
part_within-requires c = (c.requires.0, c.requires.1, omega arith, omega arith, fields_none _ _ _ _)

pub returns-then-not-part_within : goal.returns-then-not-part_within
returns-then-not-part_within c = fails_within _ _ _ _ _ _ (omega arith) (sym c.if-not-part_within.true ∙ c.part_within.ensures)
