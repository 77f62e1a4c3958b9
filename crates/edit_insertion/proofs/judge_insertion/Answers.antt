-- `edit_insertion::judge_insertion` meets its contract. Checks 1 to 3, then the insertion's own.
-- Assumes nothing.
use mathlib.Core.Path.{◌∙◌}
use Rattle.edit_laws.proofs.First.{handed_number}
use Rattle.edit_laws.proofs.AcceptedInsertion.{insertion_refused, insertion_judged}
use Rattle.edit_insertion.proofs.judge_insertion.Goals as goal

pub returns-in_err-t-clause-number : goal.returns-in_err-t-clause-number
returns-in_err-t-clause-number c = handed_number c.from_residual.result _ c.from_residual.ensures.1 ∙ insertion_refused _ _ _ _ _ _ c.in_err-t.ensures.number

pub returns-clause-number : goal.returns-clause-number
returns-clause-number c = c.insertion_checks.ensures.number ∙ rw (c.in_ok-t.ensures.lent.0, c.in_ok-t.ensures.lent.1) (insertion_judged _ _ _ _ _ c.in_ok-t.ensures.number)
