-- `herd::herd_insert` meets its contract.
-- Assumes nothing.
use mathlib.Core.Path.{◌∙◌}
use Rattle.answers.proofs.Told.{value_number, value_told_is}
use Rattle.herd.proofs.herd_insert.Goals as goal

pub returns : goal.returns
returns c =
    let e = c.insertion-answer.ensures in
    record { answer = c.number.ensures ∙ value_number _ e.answer; name = c.unwrap_or.ensures ∙ value_told_is _ e.answer; words = e.words; delta_words = e.delta_words }
