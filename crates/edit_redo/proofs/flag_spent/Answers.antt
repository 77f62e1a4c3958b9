-- `edit_redo::flag_spent` meets its contract.
-- Assumes nothing.
use Prim.Native.Nat.{ℕ}
use mathlib.Core.Path.{ap₂}
use mathlib.Core.Bool.{Bool, ◌&&◌}
use lib.Dec.{eqb}
use Rattle.crdt.specs.Flags.{largest_flag}
use Rattle.edit_redo.proofs.flag_spent.Goals as goal

pub returns : goal.returns
returns c = ap₂ (λ (x : Bool) (y : ℕ). x && eqb y largest_flag) c.is_marked.ensures c.flag_at.ensures
