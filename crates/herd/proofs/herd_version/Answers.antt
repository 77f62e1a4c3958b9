-- `herd::herd_version` meets its contract.
-- Assumes nothing.
use mathlib.Core.Path.{refl}
use Rattle.herd.proofs.herd_version.Goals as goal

pub returns : goal.returns
returns c = refl
