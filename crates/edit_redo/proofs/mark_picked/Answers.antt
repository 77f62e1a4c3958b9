-- `edit_redo::mark_picked` meets its contract.
-- Assumes nothing.
use native.Mathlib.Omega.{arith}
use Rattle.std.proofs.Common.{rules}
use Rattle.edit_redo.proofs.Marked.{one_more}
use Rattle.edit_redo.proofs.mark_picked.Goals as goal

pub loop-i-preserved : goal.loop-i-preserved
loop-i-preserved g c = one_more _ c.loop-i.redo c.loop-i.i _ _ (omega arith) c.loop-i.invariant c.picks.ensures (search rules)

pub returns : goal.returns
returns g c = λ i l m. c.loop-i.invariant i l (omega arith)
