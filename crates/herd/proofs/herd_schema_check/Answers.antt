-- `herd::herd_schema_check` meets its contract.
-- Assumes nothing.
use mathlib.Core.Path.{◌∙◌}
use Rattle.answers.proofs.Told.{done_number}
use Rattle.herd.proofs.herd_schema_check.Goals as goal

pub returns : goal.returns
returns c = c.number.ensures ∙ done_number _ c.schema_check.ensures
