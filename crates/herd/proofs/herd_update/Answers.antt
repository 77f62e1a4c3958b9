-- `herd::herd_update` meets its contract.
-- Assumes nothing.
use mathlib.Core.Path.{◌∙◌}
use Rattle.answers.proofs.Told.{done_number}
use Rattle.herd.proofs.herd_update.Goals as goal

pub returns : goal.returns
returns c = record { answer = c.number.ensures ∙ done_number _ c.update.ensures.answer; words = c.update.ensures.words; delta_words = c.update.ensures.delta_words }
