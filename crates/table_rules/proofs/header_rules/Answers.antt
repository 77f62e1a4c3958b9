-- `table_rules::header_rules` meets its contract.
-- Assumes nothing.
use mathlib.Core.Path.{◌∙◌}
use Rattle.shape_laws.proofs.Same.{header_same}
use Rattle.table_rules.proofs.header_rules.Goals as goal

pub returns : goal.returns
returns c = c.header_rules_in.ensures ∙ header_same _
