use Prim.Native.Nat.{ℕ, ◌≤◌, ◌<◌}
use mathlib.Core.Path.{◌≡◌}
use Rattle.model.specs.Layout.{stamp_at}
use Rattle.list_standing.proofs.complete.Given as goal

abbrev pub invariant-loop-j : goal.invariant-loop-j
invariant-loop-j l = (q : ℕ) → 1 ≤ q → q < l.j → stamp_at l.t.table.now l.i q ≡ 0 → ⊥
