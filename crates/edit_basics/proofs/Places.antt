-- A record of a judged table, by its position.
-- Assumes nothing.
use Prim.Native.Nat.{ℕ, ◌≤◌}
use mathlib.Core.List.{List}
use Rattle.model.specs.Layout.{used_at}
use Rattle.judged.specs.Checked.{Checked}
use Rattle.edit_basics.specs.Targets.{Placed}

pub placed : {s t : List ℕ} {i : ℕ} → Checked s t → 1 ≤ i → i ≤ used_at t → Placed s t i
placed c l m = record { checked = c; least = l; most = m }
