-- `herd::herd_marks` meets its contract.
-- Assumes nothing.
use mathlib.Core.Path.{◌∙◌}
use Rattle.answers.proofs.Told.{value_number, value_told_is}
use Rattle.herd.proofs.herd_marks.Goals as goal

pub returns : goal.returns
returns c =
    let e = c.marks-answer.ensures in
    record { answer = c.number.ensures ∙ value_number _ e.0; count = c.unwrap_or.ensures ∙ value_told_is _ e.0; bytes = e.1 }
