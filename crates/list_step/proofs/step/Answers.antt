-- `list_step::step` meets its contract.
-- Assumes nothing.
use mathlib.Core.Path.{sym, ◌∙◌}
use Rattle.answers.proofs.Told.{handed_on}
use Rattle.list_step.proofs.Steps.{told_length, told_refused, told_given}
use Rattle.list_step.proofs.step.Goals as goal

pub returns-then-wrong_length : goal.returns-then-wrong_length
returns-then-wrong_length c = told_length _ _ _ _ (sym c.wrong_length.ensures ∙ c.if-wrong_length.true)

pub returns-in_err-t : goal.returns-in_err-t
returns-in_err-t c = handed_on _ _ _ c.from_residual.ensures.1 ∙ told_refused _ _ _ _ (sym c.wrong_length.ensures ∙ c.if-wrong_length.false) _ c.in_err-t.ensures.number

pub returns : goal.returns
returns c =
    told_given _ _ _ _ _ (sym c.wrong_length.ensures ∙ c.if-wrong_length.false) c.in_ok-t.ensures.number (rw c.in_ok-t.ensures.lent.1 at c.after.ensures)
