-- `edit_delta::find` meets its contract. No record before that of the requires has its relation and label.
-- Assumes nothing.
use native.Mathlib.Omega.{arith}
use Rattle.edit_delta.proofs.Turns.{found_not}
use Rattle.edit_delta.proofs.find.Goals as goal

pub loop-i-preserved : goal.loop-i-preserved
loop-i-preserved c =
    let h = c.loop-i.invariant in
    let n = found_not _ _ _ c.loop-i.i h.0 _ c.is_at.ensures c.if-is_at.false in
    (h.0, omega (arith, n, h.1))
