-- `edit_update::judge_update` meets its contract. Checks 1 to 3, then the update's own.
-- Assumes nothing.
use mathlib.Core.Path.{◌∙◌}
use Rattle.edit_laws.proofs.First.{handed_number, first_placed}
use Rattle.edit_laws.proofs.AcceptedUpdate.{update_refused, update_judged}
use Rattle.edit_update.proofs.judge_update.Goals as goal

pub returns-in_err-t-clause-number : goal.returns-in_err-t-clause-number
returns-in_err-t-clause-number c = handed_number c.from_residual.result _ c.from_residual.ensures.1 ∙ update_refused _ _ _ _ _ _ _ c.bad_index.ensures _ c.in_err-t.ensures.number

pub update_checks-requires : goal.update_checks-requires
update_checks-requires c = (first_placed _ _ _ _ _ c.bad_index.ensures c.in_ok-t.ensures.number _ _ c.in_ok-t.ensures.lent.1 c.in_ok-t.t.checked, c.requires)

pub returns-clause-number : goal.returns-clause-number
returns-clause-number c = c.update_checks.ensures.number ∙ rw (c.in_ok-t.ensures.lent.0, c.in_ok-t.ensures.lent.1) (update_judged _ _ _ _ _ _ _ c.bad_index.ensures c.in_ok-t.ensures.number)
