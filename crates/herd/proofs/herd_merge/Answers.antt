-- `herd::herd_merge` meets its contract.
-- Assumes nothing.
use mathlib.Core.Path.{◌∙◌}
use Rattle.answers.proofs.Told.{value_number, value_told_is}
use Rattle.herd.proofs.herd_merge.Goals as goal

pub returns : goal.returns
returns c =
    let e = c.merge-answer.ensures in
    record { answer = c.number.ensures ∙ value_number _ e.answer; count = c.unwrap_or.ensures ∙ value_told_is _ e.answer; words = e.words }
