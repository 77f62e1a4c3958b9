-- `edit_targets::precedes` meets its contract.
-- Assumes nothing.
use Prim.Native.Nat.{ℕ}
use mathlib.Core.Path.{ap}
use mathlib.Core.Bool.{◌&&◌}
use lib.Dec.{ltb}
use Rattle.edit_targets.proofs.precedes.Goals as goal

pub returns : goal.returns
returns c = ap (λ (n : ℕ). ltb 0 c.args.i && ltb n c.args.label) c.label_at.ensures
