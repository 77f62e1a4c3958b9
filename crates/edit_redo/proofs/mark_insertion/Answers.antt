-- `edit_redo::mark_insertion` meets its contract.
-- Assumes nothing.
use native.Mathlib.Omega.{arith}
use Rattle.std.proofs.Common.{rules}
use Rattle.references.proofs.Places.{used_most}
use Rattle.edit_basics.proofs.Places.{placed}
use Rattle.edit_redo.proofs.Marked.{all_picked}
use Rattle.edit_redo.proofs.mark_insertion.Goals as goal

pub mark_picked-requires-clause-callable : goal.mark_picked-requires-clause-callable
mark_picked-requires-clause-callable c = λ i l m. let o = placed c.args.t.checked l m in search rules

pub mark_picked-requires-clause-long : goal.mark_picked-requires-clause-long
mark_picked-requires-clause-long c = omega (arith, used_most _ _ c.args.t.checked)

pub returns : goal.returns
returns c = all_picked _ _ _ _ c.mark_picked.ensures (λ i b h. search rules)
