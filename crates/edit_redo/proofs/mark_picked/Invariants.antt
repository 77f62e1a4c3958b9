use Rattle.edit_redo.proofs.Marked.{Marked}
use Rattle.edit_redo.proofs.mark_picked.Given as goal

abbrev pub invariant-loop-i : goal.invariant-loop-i
invariant-loop-i g l = Marked (goal.F-post g l.picks) l.redo l.i
