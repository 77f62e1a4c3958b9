-- `herd::herd_delete` meets its contract.
-- Assumes nothing.
use mathlib.Core.Path.{◌∙◌}
use Rattle.answers.proofs.Told.{done_number}
use Rattle.herd.proofs.herd_delete.Goals as goal

pub returns : goal.returns
returns c = record { answer = c.number.ensures ∙ done_number _ c.deletion.ensures.answer; words = c.deletion.ensures.words; delta_words = c.deletion.ensures.delta_words }
