-- `schema::is_broken` meets its contract.
-- Assumes nothing.
use mathlib.Core.Path.{◌∙◌}
use Rattle.shape_laws.proofs.Same.{broken_same}
use Rattle.schema.proofs.is_broken.Goals as goal

pub returns : goal.returns
returns c = c.is_broken_in.ensures ∙ broken_same _
